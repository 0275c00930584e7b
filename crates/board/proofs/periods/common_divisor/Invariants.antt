use Rattle.std.proofs.Common.{ℕ}
use Prim.Native.Nat.{◌∣◌}
use Rattle.board.proofs.periods.common_divisor.Given as goal

-- what divides the two numbers at hand divides the two at the start, and the other way round
abbrev pub invariant-loop-smaller : goal.invariant-loop-smaller
invariant-loop-smaller l =
    ((d : ℕ) → d ∣ l.larger → d ∣ l.smaller → (d ∣ l.a) × (d ∣ l.b)) × ((d : ℕ) → d ∣ l.a → d ∣ l.b → (d ∣ l.larger) × (d ∣ l.smaller))

abbrev pub decreases-loop-smaller : goal.decreases-loop-smaller
decreases-loop-smaller l = l.smaller
