use Rattle.std.proofs.Common.{◌≡◌, ℕ, ◌<◌, get_or, None}
use Rattle.fronts.specs.ByLevel.{by_level}
use Rattle.fronts.specs.Steps.{price_of}
use Rattle.fronts.proofs.plan.price_all.Given as goal

abbrev pub invariant-loop-level : goal.invariant-loop-level
invariant-loop-level g l = (j : ℕ) → j < l.level → get_or (by_level l.priced) j None ≡ price_of g.K.Kind.meaning (get_or l.offers j None)
