-- How a pair of a front came about: which offer completes which pair of the front before.
use Rattle.std.proofs.Common.{◌≡◌, ℕ, zero, suc, ◌+◌, ◌<◌, T, ◌⊎◌, List, [], ◌∷◌, Some, None, sym, refl, ap, ◌∙◌, subst, inl, inr, ⊎_elim, arith}
use Rattle.std.specs.List.{slice_get}
use Rattle.cost.specs.Kinds.{Meaning}
use Rattle.plans.specs.Choices.{In, Offer}
use Rattle.plans.specs.Fronts.{Pair, step, same}
use Rattle.plans.specs.Places.{Source, or_else, source, completed}
use Rattle.plans.specs.Promises.{Falls}
use Rattle.plans.proofs.Members.{cond_by, cond_yes, cond_no, none-some, same_some, nth_in}
use Rattle.plans.proofs.Ordering.{no_heavier, same_there, same_back}

abbrev at : {C : Type 0} → Offer C → Pair C → ℕ → Source C
at o q index = record { offer = o; before = q; index = index }

-- levels rise from offer to offer
abbrev pub Climbs : {C : Type 0} → List (Offer C) → Type 0
Climbs [] = Unit {0}
Climbs {C} (o ∷ os) = ((p : Offer C) → In p os → o.level < p.level) × Climbs os

module _ {C : Type 0} (k : Meaning C) (p : Pair C) where
  -- the offer completes the pair to p
  abbrev pub Completes : Offer C → Pair C → Type 0
  Completes o q = T (same k (step k q o) p)

  completes_load : (o : Offer C) (q : Pair C) → Completes o q → q.load + o.load ≡ p.load
  completes_load o q t = omega (arith, no_heavier k (step k q o) p (same_there k (step k q o) p t), no_heavier k p (step k q o) (same_back k (step k q o) p t))

  source_none : (o : Offer C) (n : ℕ) (qs : List (Pair C)) → ((q : Pair C) → In q qs → Completes o q → ⊥) → source k p o n qs ≡ None
  source_none o n [] none = refl
  source_none o n (q ∷ qs) none =
      cond_no (same k (step k q o) p) (Some (at o q n)) (source k p o (n + 1) qs) (none q (inl refl)) ∙ source_none o (n + 1) qs (λ x h. none x (inr h))

  -- loads fall, so that the pair which an offer completes is the only one
  source_at : (o : Offer C) (n : ℕ) (qs : List (Pair C)) (i : ℕ) (q : Pair C) → Falls k qs → slice_get qs i ≡ Some q → Completes o q → source k p o n qs ≡ Some (at o q (n + i))
  source_at o n [] i q f e t = absurd (none-some refl e)
  source_at o n (a ∷ qs) zero q f e t =
      let is : a ≡ q = same_some refl e in
      cond_yes (same k (step k a o) p) (Some (at o a n)) (source k p o (n + 1) qs) (subst (Completes o) (sym is) t) ∙ ap (λ (x : Pair C). Some (at o x n)) is ∙ ap (λ m. Some (at o q m)) (omega arith)
  source_at o n (a ∷ qs) (suc i) q f e t =
      cond_no (same k (step k a o) p) (Some (at o a n)) (source k p o (n + 1) qs)
      (λ s. omega (arith, completes_load o a s, completes_load o q t, (f.0 q (nth_in qs i q e)).lighter))
      ∙ source_at o (n + 1) qs i q f.1 e t ∙ ap (λ m. Some (at o q m)) (omega arith)

  -- the source of p: the offer of the lowest level that completes a pair of the front, and that pair
  pub completed_at : (qs : List (Pair C)) (os : List (Offer C)) (o : Offer C) (i : ℕ) (q : Pair C) → Falls k qs → Climbs os → In o os → slice_get qs i ≡ Some q → Completes o q →
      ((a : Offer C) → In a os → a.level < o.level → (x : Pair C) → In x qs → Completes a x → ⊥) → completed k p qs os ≡ Some (at o q i)
  completed_at qs [] o i q f c h e t lowest = absurd h
  completed_at qs (a ∷ os) o i q f c (inl is) e t lowest =
      ap (λ r. or_else r (completed k p qs os)) (source_at a 0 qs i q f e (subst (λ (x : Offer C). Completes x q) is t))
      ∙ ap (λ m. Some (at a q m)) (omega arith) ∙ ap (λ (x : Offer C). Some (at x q i)) (sym is)
  completed_at qs (a ∷ os) o i q f c (inr h) e t lowest =
      ap (λ r. or_else r (completed k p qs os)) (source_none a 0 qs (lowest a (inl refl) (c.0 o h)))
      ∙ completed_at qs os o i q f c.1 h e t (λ b j. lowest b (inr j))

  -- what `completed` finds
  pub record Found (qs : List (Pair C)) (os : List (Offer C)) : Type 0 where
    pub from : Source C
    pub is : completed k p qs os ≡ Some from
    pub offer_in : In from.offer os
    pub stands : slice_get qs from.index ≡ Some from.before
    pub makes : Completes from.offer from.before

  -- the first pair of a list that the offer completes, or that there is none
  first_or_none : (o : Offer C) (n : ℕ) (qs : List (Pair C)) →
      ((i : ℕ) × (q : Pair C) × (source k p o n qs ≡ Some (at o q (n + i))) × (slice_get qs i ≡ Some q) × Completes o q) ⊎ ((q : Pair C) → In q qs → Completes o q → ⊥)
  first_or_none o n [] = inr (λ q h t. h)
  first_or_none o n (q ∷ qs) =
      cond_by (same k (step k q o) p) (Some (at o q n)) (source k p o (n + 1) qs)
      (λ r. ((i : ℕ) × (x : Pair C) × (r ≡ Some (at o x (n + i))) × (slice_get (q ∷ qs) i ≡ Some x) × Completes o x) ⊎ ((x : Pair C) → In x (q ∷ qs) → Completes o x → ⊥))
      (λ t. inl (zero, q, ap (λ m. Some (at o q m)) (omega arith), refl, t))
      (λ n'. ⊎_elim
      (λ f. inl (suc f.0, f.1, f.2 ∙ ap (λ m. Some (at o f.1 m)) (omega arith), f.3, f.4))
      (λ none. inr (λ x h t. ⊎_elim (λ e. n' (subst (Completes o) e t)) (λ j. none x j t) h))
      (first_or_none o (n + 1) qs))

  pub completed_finds : (qs : List (Pair C)) (os : List (Offer C)) (o : Offer C) → In o os → (q : Pair C) → In q qs → Completes o q → Found qs os
  completed_finds qs [] o h q i t = absurd h
  completed_finds qs (a ∷ os) o h q i t = ⊎_elim
      (λ f. record {
        from = at a f.1 f.0;
        is = ap (λ r. or_else r (completed k p qs os)) f.2 ∙ ap (λ m. Some (at a f.1 m)) (omega arith);
        offer_in = inl refl;
        stands = f.3;
        makes = f.4;
      })
      (λ none. ⊎_elim (λ e. absurd (none q i (subst (λ (x : Offer C). Completes x q) e t)))
      (λ g. let f = completed_finds qs os o g q i t in
      record { from = f.from; is = ap (λ r. or_else r (completed k p qs os)) (source_none a 0 qs none) ∙ f.is; offer_in = inr f.offer_in; stands = f.stands; makes = f.makes })
      h)
      (first_or_none a 0 qs)
