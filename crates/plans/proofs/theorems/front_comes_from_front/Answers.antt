use Rattle.plans.proofs.Stepping.{front_from_front}
use Rattle.plans.proofs.theorems.front_comes_from_front.Goals as goal

pub returns : goal.returns
returns g c = front_from_front g.K.Kind.meaning g.met.K.Kind.laws
