use Rattle.std.proofs.Common.{◌<◌, length, is_some, sym, ap, ◌∙◌, arith}
use Rattle.std.proofs.lemmas.Option.{slice_get_past}
use Rattle.cost.proofs.Numbers.{ended}
use Rattle.cost.proofs.pairs.count.Goals as goal

pub returns-then-is_none : goal.returns-then-is_none
returns-then-is_none g c = omega (arith, ended (g.K.Kind.numbers c.args.cost.now) c.loop-i.i (sym (ap is_some c.number.ensures) ∙ c.if-is_none.ensures))

pub loop-i-preserved : goal.loop-i-preserved
loop-i-preserved g c = let here : c.loop-i.i < length (g.K.Kind.numbers c.args.cost.now) = grind (arith, slice_get_past) in omega arith
