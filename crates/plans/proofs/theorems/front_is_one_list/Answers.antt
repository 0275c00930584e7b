use Rattle.plans.proofs.Reaching.{front_is_front, only_front}
use Rattle.plans.proofs.theorems.front_is_one_list.Goals as goal

pub returns : goal.returns
returns g c done later few priced =
    let k = g.K.Kind.meaning in
    let laws = g.met.K.Kind.laws in
    (front_is_front k laws done later few priced, only_front k laws done later few priced)
