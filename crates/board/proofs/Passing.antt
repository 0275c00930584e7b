-- What passes a test as a whole passes it at each place.
use Rattle.std.proofs.Common.{◌≡◌, ℕ, zero, suc, ◌<◌, Bool, true, List, [], ◌∷◌, length, get_or, arith}
use Rattle.std.specs.List.{list_all}
use Rattle.std.proofs.lemmas.Bool.{and_parts}

pub pass_at : {X : Type 0} (test : X → Bool) (xs : List X) (i : ℕ) (d : X) → list_all test xs ≡ true → i < length xs → test (get_or xs i d) ≡ true
pass_at test [] i d all h = absurd (omega arith)
pass_at test (x ∷ xs) zero d all h = (and_parts (test x) (list_all test xs) all).0
pass_at test (x ∷ xs) (suc i) d all h = pass_at test xs i d (and_parts (test x) (list_all test xs) all).1 (omega arith)
