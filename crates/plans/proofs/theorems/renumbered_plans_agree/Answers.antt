use base.Stored.{Coded-set}
use Rattle.plans.proofs.Renumbering.{renumbered}
use Rattle.plans.proofs.theorems.renumbered_plans_agree.Goals as goal

pub returns : goal.returns
returns g c = renumbered g.K.Kind.meaning g.met.K.Kind.laws (Coded-set g.row.K.coded)
