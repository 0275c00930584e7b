-- The first line of bytes, by the place of its end; and what stands behind a key.
use Rattle.std.proofs.Common.{◌≡◌, ℕ, suc, ◌+◌, ◌<◌, Bool, true, false, cond, ltb, eqb, not, List, [], ◌∷◌, length, take, drop, Some, None, Option, refl, ap, ◌∙◌, sym, arith}
use native.Mathlib.Numerals.{unary_clauses}
use Rattle.std.specs.List.{position, position_or_len}
use Rattle.std.specs.Option.{option_map}
use Rattle.std.proofs.lemmas.Bool.{true≢false}
use Rattle.std.proofs.lemmas.Bool.Decides.{nat_tests}
use Rattle.jobtext.specs.Lines.{longer, cut, behind}
use Rattle.jobtext.specs.Places.{cut_at, alike}

-- the place of an end, if it is in the bytes
abbrev inside : ℕ → ℕ → Option ℕ
inside n m = cond (ltb n m) (Some n) None

one_further : (n m : ℕ) → inside (suc n) (suc m) ≡ option_map suc (inside n m)
one_further n m = grind (arith, nat_tests)

longer_at : (b : ℕ) (bs : List ℕ) (o : Option ℕ) → option_map (longer b) (cut_at bs o) ≡ cut_at (b ∷ bs) (option_map suc o)
longer_at b bs None = refl
longer_at b bs (Some n) = simp unary_clauses refl

by_first : (b : ℕ) (bs : List ℕ) (n : ℕ) (t : Bool) → cut_at bs (inside n (length bs)) ≡ cut bs →
    cut_at (b ∷ bs) (inside (cond (not t) (1 + n) 0) (suc (length bs))) ≡ cond t (Some (record { line = []; rest = bs })) (option_map (longer b) (cut bs))
by_first b bs n true h = ap (cut_at (b ∷ bs)) (let first : inside 0 (suc (length bs)) ≡ Some 0 = grind (arith, nat_tests) in first)
by_first b bs n false h = ap (λ m. cut_at (b ∷ bs) (inside m (suc (length bs)))) (let next : 1 + n ≡ suc n = omega arith in next) ∙ ap (cut_at (b ∷ bs)) (one_further n (length bs)) ∙ sym (longer_at b bs (inside n (length bs))) ∙ ap (option_map (longer b)) h

pub cut_by_position : (bs : List ℕ) → cut_at bs (position (λ b. eqb b 10) bs) ≡ cut bs
cut_by_position [] = refl
cut_by_position (b ∷ bs) = by_first b bs (position_or_len (λ b. eqb b 10) bs) (eqb b 10) (cut_by_position bs)

-- a key that has no byte left stands in front of everything
pub behind_none : (key line : List ℕ) → length key < 1 → Some line ≡ behind key line
behind_none [] line h = refl
behind_none (k ∷ ks) line h = absurd (omega arith)

-- a key and a line that begin with the same byte
pub behind_more : (key line : List ℕ) → alike line key ≡ true → behind key line ≡ behind (drop 1 key) (drop 1 line)
behind_more [] [] e = absurd (true≢false (sym e))
behind_more [] (b ∷ bs) e = absurd (true≢false (sym e))
behind_more (k ∷ ks) [] e = absurd (true≢false (sym e))
behind_more (k ∷ ks) (b ∷ bs) e = ap (λ t. cond t (behind ks bs) None) e
