use Rattle.plans.proofs.Telling.{levels_told}
use Rattle.plans.proofs.theorems.levels_tell_the_choice.Goals as goal

pub returns : goal.returns
returns g c rows board ports room buffer f e found = levels_told g.K.Kind.meaning rows f found g.met.K.Kind.laws board ports room buffer e
