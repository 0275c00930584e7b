-- Sorting the unbeaten pairs of a list gives the falling list of them.
use Rattle.std.proofs.Common.{◌≡◌, ◌<◌, cond, T, ◌⊎◌, List, [], ◌∷◌, sym, refl, subst, inl, inr, ⊎_elim, arith}
use lib.Dec.{not_T}
use Rattle.std.proofs.lemmas.Bool.{cases_lt}
use Rattle.cost.specs.Kinds.{Meaning, Laws}
use Rattle.plans.specs.Choices.{In}
use Rattle.plans.specs.Fronts.{Pair, no_worse, same, unbeaten, put, sorted}
use Rattle.plans.specs.Promises.{Ahead, Falls}
use Rattle.plans.proofs.Members.{cond_by}
use Rattle.plans.proofs.Least.{Least, filtered_in, filtered_out}
use Rattle.plans.proofs.Ordering.{Good, no_worse_in, same_there, same_back, same_in, same_pair, ahead_chain, one_list}

module _ {C : Type 0} (k : Meaning C) where
  -- p goes in front of the first pair that it is no dearer than, unless it is there
  put_by : (p q : Pair C) (qs : List (Pair C)) (P : List (Pair C) → Type 0) → (T (same k p q) → P (q ∷ qs)) →
      ((T (same k p q) → ⊥) → T (k.under p.cost q.cost) → P (p ∷ q ∷ qs)) →
      ((T (same k p q) → ⊥) → (T (k.under p.cost q.cost) → ⊥) → P (q ∷ put k p qs)) → P (put k p (q ∷ qs))
  put_by p q qs P there here later =
      cond_by (same k p q) (q ∷ qs) (cond (k.under p.cost q.cost) (p ∷ q ∷ qs) (q ∷ put k p qs)) P there
      (λ n. cond_by (k.under p.cost q.cost) (p ∷ q ∷ qs) (q ∷ put k p qs) P (here n) (later n))

  put_old : (p : Pair C) (qs : List (Pair C)) (x : Pair C) → In x qs → In x (put k p qs)
  put_old p [] x h = absurd h
  put_old p (q ∷ qs) x h = put_by p q qs (In x) (λ _. h) (λ _ _. inr h) (λ _ _. ⊎_elim inl (λ g. inr (put_old p qs x g)) h)

  put_out : (p : Pair C) (qs : List (Pair C)) (x : Pair C) → In x (put k p qs) → (x ≡ p) ⊎ In x qs
  put_out p [] x = λ h. h
  put_out p (q ∷ qs) x =
      put_by p q qs (λ l. In x l → (x ≡ p) ⊎ In x (q ∷ qs)) (λ _ h. inr h) (λ _ _ h. h)
      (λ _ _ h. ⊎_elim (λ e. inr (inl e)) (λ g. ⊎_elim inl (λ i. inr (inr i)) (put_out p qs x g)) h)

  sorted_out : (ps : List (Pair C)) (x : Pair C) → In x (sorted k ps) → In x ps
  sorted_out [] x h = h
  sorted_out (p ∷ ps) x h = ⊎_elim inl (λ g. inr (sorted_out ps x g)) (put_out p (sorted k ps) x h)

  -- neither beats the other
  record Even (p q : Pair C) : Type 0 where
    there : T (no_worse k p q) → T (no_worse k q p)
    back : T (no_worse k q p) → T (no_worse k p q)

  -- of two such pairs that differ, the dearer one is lighter
  even_ahead : (p q : Pair C) → Even p q → (T (same k p q) → ⊥) → T (k.under p.cost q.cost) → Ahead k p q
  even_ahead p q even differ u =
      let light : q.load < p.load =
      ⊎_elim (λ lt. lt) (λ ge. absurd (let t = no_worse_in k p q ge u in differ (same_in k p q t (even.there t)))) (cases_lt q.load p.load) in
      record {
        cheaper = not_T (k.under q.cost p.cost) (λ v. let t = no_worse_in k q p (omega arith) v in differ (same_in k p q (even.back t) t));
        lighter = light;
      }

module _ {C : Type 0} (k : Meaning C) (laws : Laws k) where
  put_new : (p : Pair C) (qs : List (Pair C)) → Good k p → ((q : Pair C) → In q qs → Good k q) → In p (put k p qs)
  put_new p [] gp all = inl refl
  put_new p (q ∷ qs) gp all =
      put_by k p q qs (In p) (λ t. inl (same_pair k laws p q gp (all q (inl refl)) t)) (λ _ _. inl refl) (λ _ _. inr (put_new p qs gp (λ x h. all x (inr h))))

  sorted_in : (ps : List (Pair C)) → ((q : Pair C) → In q ps → Good k q) → (x : Pair C) → In x ps → In x (sorted k ps)
  sorted_in [] all x h = h
  sorted_in (p ∷ ps) all x (inl e) = subst (λ (y : Pair C). In y (put k p (sorted k ps))) (sym e) (put_new p (sorted k ps) (all p (inl refl)) (λ q h. all q (inr (sorted_out k ps q h))))
  sorted_in (p ∷ ps) all x (inr h) = put_old k p (sorted k ps) x (sorted_in ps (λ q g. all q (inr g)) x h)

  put_falls : (p : Pair C) (qs : List (Pair C)) → Good k p → ((q : Pair C) → In q qs → Good k q) → ((q : Pair C) → In q qs → Even k p q) → Falls k qs → Falls k (put k p qs)
  put_falls p [] gp all even f = (λ q h. absurd h, tt)
  put_falls p (q ∷ qs) gp all even f =
      let gq = all q (inl refl) in
      let both = even q (inl refl) in
      put_by k p q qs (Falls k) (λ _. f)
      (λ differ u. let a = even_ahead k p q both differ u in
      (λ x h. ⊎_elim (λ e. subst (λ (y : Pair C). Ahead k p y) (sym e) a) (λ i. ahead_chain k laws p q gp gq x (all x (inr i)) a (f.0 x i)) h, f))
      (λ differ v. let u = ⊎_elim (λ h. absurd (v h)) (λ h. h) (laws.either p.cost q.cost gp gq) in
      let a = even_ahead k q p (record { there = both.back; back = both.there }) (λ t. differ (same_in k p q (same_back k q p t) (same_there k q p t))) u in (
        λ x h. ⊎_elim (λ e. subst (λ (y : Pair C). Ahead k q y) (sym e) a) (f.0 x) (put_out k p qs x h),
        put_falls p qs gp (λ x h. all x (inr h)) (λ x h. even x (inr h)) f.1,
      ))

  sorted_falls : (ps : List (Pair C)) → ((q : Pair C) → In q ps → Good k q) → ((p q : Pair C) → In p ps → In q ps → T (no_worse k p q) → T (no_worse k q p)) → Falls k (sorted k ps)
  sorted_falls [] all even = tt
  sorted_falls (p ∷ ps) all even =
      put_falls p (sorted k ps) (all p (inl refl)) (λ q h. all q (inr (sorted_out k ps q h)))
      (λ q h. let g = sorted_out k ps q h in record { there = even p q (inl refl) (inr g); back = even q p (inr g) (inl refl) })
      (sorted_falls ps (λ q h. all q (inr h)) (λ x y h g. even x y (inr h) (inr g)))

  -- the unbeaten pairs of a list whose costs are totals, sorted
  module _ (ps : List (Pair C)) (all : (q : Pair C) → In q ps → Good k q) where
    pub pareto_in : (p : Pair C) → Least (no_worse k) ps p → In p (sorted k (unbeaten k ps))
    pareto_in p m = sorted_in (unbeaten k ps) (λ q h. all q (filtered_out (no_worse k) ps q h).stands) p (filtered_in (no_worse k) ps p m)

    pub pareto_out : (p : Pair C) → In p (sorted k (unbeaten k ps)) → Least (no_worse k) ps p
    pareto_out p h = filtered_out (no_worse k) ps p (sorted_out k (unbeaten k ps) p h)

    pub pareto_falls : Falls k (sorted k (unbeaten k ps))
    pareto_falls = sorted_falls (unbeaten k ps) (λ q h. all q (filtered_out (no_worse k) ps q h).stands)
        (λ p q h g. (filtered_out (no_worse k) ps q g).unbeaten p (filtered_out (no_worse k) ps p h).stands)

    -- any falling list of the least pairs is that one
    pub pareto_is : (qs : List (Pair C)) → Falls k qs → ((p : Pair C) → In p qs → Least (no_worse k) ps p) → ((p : Pair C) → Least (no_worse k) ps p → In p qs) → qs ≡ sorted k (unbeaten k ps)
    pareto_is qs f out into = one_list k qs (sorted k (unbeaten k ps)) f pareto_falls (λ p h. pareto_in p (out p h)) (λ p h. into p (pareto_out p h))
