use Rattle.std.proofs.Common.{length, take}
use Rattle.fronts.specs.ByLevel.{by_level}
use Rattle.fronts.specs.Merge.{before}
use Rattle.fronts.proofs.Turns.{left}
use Rattle.fronts.proofs.Looping.{Going}
use Rattle.fronts.proofs.merge.merge.Given as goal

abbrev pub invariant-loop-next : goal.invariant-loop-next
invariant-loop-next g l = Going g.K.Kind.meaning l.front.base l.bound l.front.count l.initial.part (by_level l.offers) l.part l.end (by_level l.heads) l.cursors

-- what the cursors have left
abbrev pub decreases-loop-next : goal.decreases-loop-next
decreases-loop-next g l = left (length (before g.K.Kind.meaning l.front.base (take l.front.count l.initial.part))) l.cursors
