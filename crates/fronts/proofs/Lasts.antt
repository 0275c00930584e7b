-- What a loop over a list has left: from its start on the last ones, from its end on the first ones.
use Rattle.std.proofs.Common.{◌≡◌, ℕ, zero, suc, ◌+◌, ◌<◌, List, [], ◌∷◌, ◌++◌, length, get_or, take, drop, refl, ap, ◌∙◌, arith}
use Rattle.std.proofs.Math.Seq.{drop-nil}

no_item : {X : Type 0} {x : X} {xs : List X} → x ∷ xs ≡ [] → ⊥
no_item e = cc

-- the last of the first ones, and the others
pub last_taken : {X : Type 0} (xs rs : List X) (x : X) → xs ++ x ∷ [] ≡ take (length (xs ++ x ∷ [])) rs → (xs ≡ take (length xs) rs) × (length xs < length rs) × ((d : X) → x ≡ get_or rs (length xs) d)
last_taken [] [] x e = absurd (no_item e)
last_taken [] (r ∷ rs) x e = (refl, omega arith, λ d. cc)
last_taken (y ∷ xs) [] x e = absurd (no_item e)
last_taken {X} (y ∷ xs) (r ∷ rs) x e =
    let same : y ≡ r = cc in
    let rest : xs ++ x ∷ [] ≡ take (length (xs ++ x ∷ [])) rs = cc in
    let p = last_taken xs rs x rest in
    (ap (λ (z : X). z ∷ xs) same ∙ ap (λ (zs : List X). r ∷ zs) p.0, omega (arith, p.1), p.2)

-- the first of those that are left behind the first n, and the others
pub first_left : {X : Type 0} (xs : List X) (n : ℕ) (x : X) (ys : List X) → x ∷ ys ≡ drop n xs → (n < length xs) × ((d : X) → x ≡ get_or xs n d) × (ys ≡ drop (n + 1) xs)
first_left [] n x ys e = absurd (no_item (e ∙ drop-nil n))
first_left (z ∷ xs) zero x ys e = (omega arith, λ d. cc, cc)
first_left {X} (z ∷ xs) (suc n) x ys e =
    let p = first_left xs n x ys e in
    let on : suc (n + 1) ≡ suc n + 1 = omega arith in
    (omega (arith, p.0), p.1, p.2 ∙ ap (λ m. drop {A = X} m (z ∷ xs)) on)
