-- Levels that rise, told by each two neighbours.
use Rattle.std.proofs.Common.{◌≡◌, ℕ, zero, suc, ◌+◌, ◌<◌, true, false, ◌&&◌, List, [], ◌∷◌, length, get_or, sym, refl, ap, ◌∙◌, arith}
use Rattle.std.specs.List.{IsAllAdjacentAnswer}
use Rattle.std.proofs.lemmas.Bool.{and_from}
use Rattle.board.specs.declared.levels.Level.{Level}
use Rattle.board.specs.Processors.{below, rising}

next : (x : Level) (xs : List Level) (k : ℕ) (d : Level) → below (get_or (x ∷ xs) (suc k) d) (get_or (x ∷ xs) (suc k + 1) d) ≡ below (get_or xs k d) (get_or xs (k + 1) d)
next x xs k d = let e : suc k + 1 ≡ suc (k + 1) = omega arith in ap (λ n. below (get_or xs k d) (get_or (x ∷ xs) n d)) e

rises : (xs : List Level) → ((k : ℕ) (d : Level) → k + 1 < length xs → true ≡ below (get_or xs k d) (get_or xs (k + 1) d)) → rising xs ≡ true
rises [] h = refl
rises (x ∷ []) h = refl
rises (x ∷ (y ∷ ys)) h = and_from _ _ (sym (h 0 x (omega arith))) (rises (y ∷ ys) (λ k d l. h (suc k) d (omega arith) ∙ next x (y ∷ ys) k d))

falls : (xs : List Level) (k : ℕ) → k + 1 < length xs → ((d : Level) → false ≡ below (get_or xs k d) (get_or xs (k + 1) d)) → rising xs ≡ false
falls [] k l h = absurd (omega arith)
falls (x ∷ []) k l h = absurd (omega arith)
falls (x ∷ (y ∷ ys)) zero l h = ap (λ b. b && rising (y ∷ ys)) (sym (h x))
falls (x ∷ (y ∷ ys)) (suc k) l h = ap (λ b. below x y && b) (falls (y ∷ ys) k (omega arith) (λ d. h d ∙ next x (y ∷ ys) k d)) ∙ never (below x y)
  where
    never : (b : _) → (b && false) ≡ false
    never true = refl
    never false = refl

pub rising_by_neighbours : (xs : List Level) (r : _) → IsAllAdjacentAnswer (λ x y b. b ≡ below x y) xs r → r ≡ rising xs
rising_by_neighbours xs true h = sym (rises xs h)
rising_by_neighbours xs false h = sym (falls xs h.0 h.1 h.2)
