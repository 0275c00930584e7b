use Rattle.std.proofs.Common.{◌≤◌, length}
use Rattle.cost.proofs.pairs.count.Given as goal

-- the numbers up to here are there
abbrev pub invariant-loop-i : goal.invariant-loop-i
invariant-loop-i g l = l.i ≤ length (g.K.Kind.numbers l.cost)
