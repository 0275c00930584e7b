-- The cheapest pair of the last front, where it stands.
use Rattle.std.proofs.Common.{◌≡◌, ℕ, zero, suc, ◌+◌, ◌≤◌, true, cond, T, List, [], ◌∷◌, map, reverse, length, get_or, take, drop, sym, refl, ap, ◌∙◌, arith}
use Rattle.std.proofs.lemmas.List.{length-map, length-take-le, length-drop, at_drop_more}
use Rattle.std.proofs.lemmas.Bool.{eq-eqb, ne_eqb}
use Rattle.cost.specs.Kinds.{Meaning, Laws}
use Rattle.plans.specs.declared.states.State.{State}
use Rattle.plans.specs.Choices.{Row, In, fits}
use Rattle.plans.specs.Fronts.{Pair, pair, front}
use Rattle.plans.specs.Places.{cheapest, best}
use Rattle.plans.specs.Promises.{Rows}
use Rattle.plans.proofs.Candidates.{pair_of}
use Rattle.plans.proofs.Fitting.{fits_possible}
use Rattle.plans.proofs.Members.{and_in}
use Rattle.plans.proofs.Reaching.{few_reversed, priced_reversed, front_covers}
use Rattle.fronts.specs.Merge.{before}

module _ {C : Type 0} (k : Meaning C) (laws : Laws k) (rows : List (Row C)) (stand : Rows k rows) (open' : T (fits 0 rows)) where
  some_front : (p : Pair C) × In p (front k (reverse rows) [])
  some_front =
      let c = fits_possible rows stand.offered open' in
      let f = front_covers k laws (reverse rows) [] (few_reversed k rows stand.few) (priced_reversed k rows stand.priced) c.choice c.chosen (and_in _ true c.kept tt) in
      (f.0, f.1)

  module _ (list : List (State C)) (start count base : ℕ) (ends : start + count ≤ length list) (pairs : before k base (take count (drop start list)) ≡ front k (reverse rows) []) where
    -- with no rows it is the pair of load 0 and cost zero
    pub best_none : base ≡ 0 → best k rows ≡ pair k []
    best_none e = ap cheapest' (sym pairs ∙ ap (λ b. cond b (pair k [] ∷ []) (map pair_of (take count (drop start list)))) (eq-eqb base 0 e))
      where
        cheapest' : List (Pair C) → Pair C
        cheapest' = cheapest k

    held : (base ≡ 0 → ⊥) → map pair_of (take count (drop start list)) ≡ front k (reverse rows) []
    held ne = sym (ap (λ b. cond b (pair k [] ∷ []) (map pair_of (take count (drop start list)))) (ne_eqb base 0 ne)) ∙ pairs

    not_empty : (n : ℕ) (ps : List (Pair C)) (p : Pair C) → In p ps → length ps ≡ n → 1 ≤ n
    not_empty n [] p i e = absurd i
    not_empty n (q ∷ ps) p i e = omega (arith, e)

    pub some_place : (base ≡ 0 → ⊥) → 1 ≤ count
    some_place ne = not_empty count (front k (reverse rows) []) some_front.0 some_front.1
        (ap length (sym (held ne)) ∙ length-map (take count (drop start list)) pair_of ∙ length-take-le count (drop start list) (omega (arith, length-drop start list)))

    pub best_at : (base ≡ 0 → ⊥) → (x : State C) → x ≡ get_or list start x → best k rows ≡ pair_of x
    best_at ne x is =
        let some = some_place ne in
        let first : take count (drop start list) ≡ take count (x ∷ drop (start + 1) list) = at_drop_more (take count) list start x (omega arith) ∙ ap (λ (y : State C). take count (y ∷ drop (start + 1) list)) (sym is) in
        ap (cheapest k) (sym (held ne) ∙ ap (map pair_of) first) ∙ head count some
      where
        head : (n : ℕ) → 1 ≤ n → cheapest k (map pair_of (take n (x ∷ drop (start + 1) list))) ≡ pair_of x
        head zero h = absurd (omega arith)
        head (suc n) h = refl
