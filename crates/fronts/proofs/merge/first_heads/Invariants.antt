use Rattle.std.proofs.Common.{◌≡◌, ℕ, ◌<◌, get_or, None}
use Rattle.fronts.specs.ByLevel.{by_level}
use Rattle.fronts.proofs.Looping.{sums}
use Rattle.fronts.proofs.merge.first_heads.Given as goal

abbrev pub invariant-loop-level : goal.invariant-loop-level
invariant-loop-level g l = (level : ℕ) → level < l.level → get_or (by_level l.heads) level None ≡ sums g.K.Kind.meaning l.front.base l.front.count l.part (by_level l.offers) level 0
