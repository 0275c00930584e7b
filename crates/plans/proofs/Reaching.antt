-- What stands in a front: pairs of open beginnings, whose costs are sums of as many entries as there are rows.
use Rattle.std.proofs.Common.{◌≡◌, ℕ, suc, ◌+◌, ◌≤◌, not, T, List, [], ◌∷◌, reverse, length, filter, sym, refl, subst, inl, inr, ⊎_elim, add-one, arith, T_not}
use lib.Dec.{not_T}
use lib.ListN.{length-reverse}
use Rattle.cost.specs.Kinds.{Meaning, most_entries, Sum, nothing, both, Total, Laws}
use Rattle.plans.specs.Choices.{In, Row, Taken, taken, beginnings, choices, open_to}
use Rattle.plans.specs.Fronts.{Pair, cost, pair, no_worse, reached, front}
use Rattle.plans.specs.Promises.{Priced, Falls, Reached, Leads, FrontOf}
use Rattle.plans.proofs.Members.{known, and_in, and_left, and_right, kept_in, kept_out, map_in, map_out, each_out, reverse_out}
use Rattle.plans.proofs.Least.{Least, cover}
use Rattle.plans.proofs.Ordering.{Good, pair_order, one_list}
use Rattle.plans.proofs.Sorting.{pareto_in, pareto_out, pareto_falls}

module _ {C : Type 0} (k : Meaning C) where
  pub reached_out : (done later : List (Row C)) (p : Pair C) → In p (reached k done later) → Reached k done later p
  reached_out done later p h =
      let m = map_out (pair k) (filter (open_to later) (beginnings done)) p h in
      let r = kept_out (open_to later) (beginnings done) m.0 m.1 in
      record { beginning = m.0; begins = r.0; opens = r.1; is = m.2 }

  pub reached_in : (done later : List (Row C)) (p : Pair C) → Reached k done later p → In p (reached k done later)
  reached_in done later p r =
      let b = r.beginning in
      subst (λ (x : Pair C). In x (reached k done later)) (sym r.is) (map_in (pair k) (filter (open_to later) (beginnings done)) b (kept_in (open_to later) (beginnings done) b r.begins r.opens))

  -- the cost of a beginning is a sum of as many entries as it has rows
  pub sum_of : (done : List (Row C)) → Priced k done → (b : List (Taken C)) → In b (beginnings done) → Sum k (length done) (cost k b)
  sum_of [] priced b (inl e) = subst (λ (x : List (Taken C)). Sum k 0 (cost k x)) (sym e) nothing
  sum_of [] priced b (inr h) = absurd h
  sum_of (row ∷ done) priced b h =
      let p = each_out (taken row) (beginnings done) row.offers b h in
      let s : Sum k (length done + 1) (cost k (taken row p.one p.two)) = both (sum_of done (λ r i. priced r (inr i)) p.one p.one_in) (priced row (inl refl) p.two p.two_in) in
      let t : Sum k (suc (length done)) (cost k (taken row p.one p.two)) = subst (λ (n : ℕ). Sum k n (cost k (taken row p.one p.two))) (add-one (length done)) s in
      subst (λ (x : List (Taken C)). Sum k (suc (length done)) (cost k x)) (sym p.is) t

  -- rows back to front
  pub few_reversed : (rows : List (Row C)) → length rows ≤ most_entries → length (reverse rows) ≤ most_entries
  few_reversed rows few = omega (arith, length-reverse rows)

  pub priced_reversed : (rows : List (Row C)) → Priced k rows → Priced k (reverse rows)
  priced_reversed rows priced r h = priced r (reverse_out rows r h)

  pub choice_total : (rows : List (Row C)) → length rows ≤ most_entries → Priced k rows → (c : List (Taken C)) → In c (choices rows) → Total k (cost k c)
  choice_total rows few priced c h = record { count = length (reverse rows); few = few_reversed rows few; sum = sum_of (reverse rows) (priced_reversed rows priced) c h }

  pub reached_sum : (done later : List (Row C)) → Priced k done → (p : Pair C) → In p (reached k done later) → Sum k (length done) p.cost
  reached_sum done later priced p h =
      let r = reached_out done later p h in
      subst (λ (q : Pair C). Sum k (length done) q.cost) (sym r.is) (sum_of done priced r.beginning r.begins)

  pub reached_good : (done later : List (Row C)) → length done ≤ most_entries → Priced k done → (p : Pair C) → In p (reached k done later) → Good k p
  reached_good done later few priced p h = record { count = length done; few = few; sum = reached_sum done later priced p h }

module _ {C : Type 0} (k : Meaning C) (laws : Laws k) where
  module _ (done later : List (Row C)) (few : length done ≤ most_entries) (priced : Priced k done) where
    pub front_in : (p : Pair C) → Least (no_worse k) (reached k done later) p → In p (front k done later)
    front_in = pareto_in k laws (reached k done later) (reached_good k done later few priced)

    pub front_out : (p : Pair C) → In p (front k done later) → Least (no_worse k) (reached k done later) p
    front_out = pareto_out k laws (reached k done later) (reached_good k done later few priced)

    pub front_falls : Falls k (front k done later)
    front_falls = pareto_falls k laws (reached k done later) (reached_good k done later few priced)

    pub front_good : (p : Pair C) → In p (front k done later) → Good k p
    front_good p h = reached_good k done later few priced p (front_out p h).stands

    -- each open beginning has a pair of the front that is no heavier and no dearer
    pub front_covers : (b : List (Taken C)) → In b (beginnings done) → T (open_to later b) → (p : Pair C) × In p (front k done later) × T (no_worse k p (pair k b))
    front_covers b h t =
        let c = cover (pair_order k laws) (reached k done later) (reached_good k done later few priced) (pair k b) (reached_in k done later (pair k b) (record { beginning = b; begins = h; opens = t; is = refl })) in
        (c.by, front_in c.by c.least, c.below)

    -- to be least among the pairs of open beginnings is to lead
    least_leads : (p : Pair C) → Least (no_worse k) (reached k done later) p → Leads k done later p
    least_leads p m = record {
      reached = reached_out k done later p m.stands;
      unbeaten = λ q r s. T_not (no_worse k p q) (and_right (no_worse k q p) (not (no_worse k p q)) s) (m.unbeaten q (reached_in k done later q r) (and_left (no_worse k q p) (not (no_worse k p q)) s));
    }

    leads_least : (p : Pair C) → Leads k done later p → Least (no_worse k) (reached k done later) p
    leads_least p l = record {
      stands = reached_in k done later p l.reached;
      unbeaten = λ q h t. ⊎_elim (λ y. y) (λ n. absurd (l.unbeaten q (reached_out k done later q h) (and_in (no_worse k q p) (not (no_worse k p q)) t (not_T (no_worse k p q) n)))) (known (no_worse k p q));
    }

    pub front_is_front : FrontOf k done later (front k done later)
    front_is_front = record { falls = front_falls; each = λ p h. least_leads p (front_out p h); all = λ p l. front_in p (leads_least p l) }

    pub only_front : (ps : List (Pair C)) → FrontOf k done later ps → ps ≡ front k done later
    only_front ps f = one_list k ps (front k done later) f.falls front_falls (λ p h. front_is_front.all p (f.each p h)) (λ p h. f.all p (front_is_front.each p h))
