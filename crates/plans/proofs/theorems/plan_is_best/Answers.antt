use Rattle.plans.proofs.Fitting.{plans_best}
use Rattle.plans.proofs.theorems.plan_is_best.Goals as goal

pub returns : goal.returns
returns g c = plans_best g.K.Kind.meaning g.met.K.Kind.laws
