-- Where a list of numbers ends.
use Rattle.std.proofs.Common.{◌≡◌, ℕ, zero, suc, ◌≤◌, false, List, [], ◌∷◌, length, is_some, true≢false, arith}
use Rattle.std.specs.List.{slice_get}

pub ended : (xs : List ℕ) (i : ℕ) → is_some (slice_get xs i) ≡ false → length xs ≤ i
ended [] i h = omega arith
ended (x ∷ xs) zero h = absurd (true≢false h)
ended (x ∷ xs) (suc i) h = omega (arith, ended xs i h)
