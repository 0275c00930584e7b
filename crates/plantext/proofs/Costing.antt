-- The text of a cost of at most two numbers, from what is found at its first two places.
use Rattle.std.proofs.Common.{◌≡◌, ℕ, ◌≤◌, List, [], ◌∷◌, ◌++◌, length, Some, None, decimal, refl, ap, ◌∙◌, arith}
use Rattle.std.specs.List.{slice_get}
use Rattle.plantext.specs.Answers.{numbers_text}

pub no_number : (ns : List ℕ) → None ≡ slice_get ns 0 → [] ≡ numbers_text ns
no_number [] none = refl
no_number (n ∷ ns) none = cc

pub one_number : (ns : List ℕ) (a : ℕ) → Some a ≡ slice_get ns 0 → None ≡ slice_get ns 1 → decimal a ≡ numbers_text ns
one_number [] a first none = cc
one_number (n ∷ []) a first none = let same : a ≡ n = cc in ap decimal same
one_number (n ∷ (m ∷ ns)) a first none = cc

pub two_numbers : (ns : List ℕ) (a b : ℕ) → length ns ≤ 2 → Some a ≡ slice_get ns 0 → Some b ≡ slice_get ns 1 → decimal a ++ (44 ∷ decimal b) ≡ numbers_text ns
two_numbers [] a b few first second = cc
two_numbers (n ∷ []) a b few first second = cc
two_numbers (n ∷ (m ∷ [])) a b few first second =
    let one : a ≡ n = cc in
    let two : b ≡ m = cc in
    ap (λ k. decimal k ++ (44 ∷ decimal b)) one ∙ ap (λ k. decimal n ++ (44 ∷ decimal k)) two
two_numbers (n ∷ (m ∷ (k ∷ ns))) a b few first second = absurd (omega arith)
