-- The pairs of the front before, as the code reads them.
use Rattle.std.proofs.Common.{◌≡◌, ℕ, zero, suc, ◌+◌, ◌<◌, ◌≤◌, Bool, true, false, cond, eqb, List, [], ◌∷◌, map, length, get_or, take, Some, None, Option, sym, refl, ap, ◌∙◌, ⊎_elim, arith}
use Rattle.std.specs.List.{slice_get}
use Rattle.std.proofs.lemmas.List.{get_or-take, length-map, length-take-le}
use Rattle.std.proofs.lemmas.Option.{slice_get_past, slice_get_read}
use Rattle.std.proofs.lemmas.Bool.{eq-eqb, ne_eqb, cases_eq}
use Rattle.cost.specs.Kinds.{Meaning}
use Rattle.plans.specs.declared.states.State.{State}
use Rattle.plans.specs.Fronts.{Pair, pair}
use Rattle.plans.proofs.Candidates.{pair_of}
use Rattle.plans.proofs.Members.{cond_by, none-some, same_some}
use Rattle.fronts.specs.Merging.{sum_of}
use Rattle.fronts.specs.Merge.{before, size}

nth_map : {X Y : Type 0} (f : X → Y) (xs : List X) (i : ℕ) (x : X) → slice_get xs i ≡ Some x → slice_get (map f xs) i ≡ Some (f x)
nth_map f [] i x e = absurd (none-some refl e)
nth_map f (y ∷ xs) zero x e = ap (λ z. Some (f z)) (same_some refl e)
nth_map f (y ∷ xs) (suc i) x e = nth_map f xs i x e

pub sum_some : {C : Type 0} (o : Option (Pair C)) (s : ℕ × C) → Some s ≡ sum_of o → o ≡ Some (record { load = s.0; cost = s.1 })
sum_some None s e = absurd (none-some refl (sym e))
sum_some {C} (Some p) s e = ap (λ (t : ℕ × C). Some (record { load = t.0; cost = t.1 })) (same_some refl (sym e))

-- the positions of the front before are below what they are bounded by
pub position_below : (base count n i : ℕ) → base + count ≤ n → 0 < n → i < size base count → base + i < n
position_below base count n i last some below = ⊎_elim
    (λ e. let one : size base count ≡ 1 = ap (λ b. cond b 1 count) (eq-eqb base 0 e) in omega arith)
    (λ ne. let all : size base count ≡ count = ap (λ b. cond b 1 count) (ne_eqb base 0 ne) in omega arith)
    (cases_eq base 0)

pub size_below : (base count n : ℕ) → count < n → 1 < n → size base count < n
size_below base count n few some = cond_by (eqb base 0) 1 count (λ m. m < n) (λ _. some) (λ _. few)

module _ {C : Type 0} (k : Meaning C) (base count : ℕ) (part : List (State C)) (within : count ≤ length part) where
  pub length_before : length (before k base (take count part)) ≡ size base count
  length_before = judge (eqb base 0) where
    judge : (b : Bool) → length (cond b (pair k [] ∷ []) (map pair_of (take count part))) ≡ cond b 1 count
    judge true = refl
    judge false = length-map (take count part) pair_of ∙ length-take-le count part within

  pub no_pair : (i : ℕ) → size base count ≤ i → None ≡ sum_of (slice_get (before k base (take count part)) i)
  no_pair i past = sym (ap sum_of (slice_get_past (before k base (take count part)) i (omega (arith, length_before))))

  pub pair_read : (base ≡ 0 → ⊥) → (i : ℕ) → i < count → (x : State C) → x ≡ get_or part i x → Some (x.load, x.cost) ≡ sum_of (slice_get (before k base (take count part)) i)
  pair_read some i below x read =
      let there : slice_get (take count part) i ≡ Some x = slice_get_read (take count part) count i x (sym (length-take-le count part within)) below (read ∙ sym (get_or-take count part i x below)) in
      sym (ap (λ b. sum_of (slice_get (cond b (pair k [] ∷ []) (map pair_of (take count part))) i)) (ne_eqb base 0 some) ∙ ap sum_of (nth_map pair_of (take count part) i x there))
