use Rattle.std.proofs.Common.{◌≡◌}
use Rattle.fronts.specs.ByLevel.{by_level}
use Rattle.fronts.specs.Merging.{heads_of, cheapest}
use Rattle.fronts.proofs.merge.cheapest.Given as goal

abbrev pub invariant-loop-level : goal.invariant-loop-level
invariant-loop-level g l = l.found ≡ cheapest g.K.Kind.meaning (heads_of l.base (by_level l.heads) l.cursors) l.level
