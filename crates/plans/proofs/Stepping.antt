-- The front of one row more is made from the front alone.
use Rattle.std.proofs.Common.{◌≡◌, ◌+◌, ◌≤◌, T, List, ◌∷◌, length, sym, refl, ap, ◌∙◌, subst, inl, inr, arith}
use Rattle.cost.specs.Kinds.{Meaning, most_entries, Sum, both, Laws, NoDearer}
use Rattle.plans.specs.Choices.{In, Offer, Row, Taken, taken, each_with, beginnings, load, open_to}
use Rattle.plans.specs.Fronts.{Pair, pair, step, no_worse, unbeaten, sorted, reached, front}
use Rattle.plans.specs.Promises.{Priced, admits, extended}
use Rattle.plans.proofs.Members.{kept_in, kept_out, each_in, each_out}
use Rattle.plans.proofs.Least.{Least, least_part, least_whole}
use Rattle.plans.proofs.Opening.{open_keeps, open_in, open_admits, admits_lighter, prefix_open}
use Rattle.plans.proofs.Ordering.{Good, no_worse_in, no_heavier, no_dearer, pair_order}
use Rattle.plans.proofs.Sorting.{pareto_is}
use Rattle.plans.proofs.Reaching.{reached_out, reached_in, sum_of, reached_sum, reached_good, front_in, front_out, front_falls, front_covers}

module _ {C : Type 0} (k : Meaning C) (laws : Laws k) (row : Row C) (done later : List (Row C)) (few : length (row ∷ done) ≤ most_entries) (priced : Priced k (row ∷ done)) where
  abbrev before : List (Pair C)
  before = front k done (row ∷ later)

  abbrev wider : List (Pair C)
  wider = extended k row later before

  few_before : length done ≤ most_entries
  few_before = omega arith

  priced_before : Priced k done
  priced_before r h = priced r (inr h)

  -- the cost of a pair of the front before is a sum of as many entries as there were rows
  pub sum_before : (q : Pair C) → In q before → Sum k (length done) q.cost
  sum_before q h = reached_sum k done (row ∷ later) priced_before q (front_out k laws done (row ∷ later) few_before priced_before q h).stands

  -- and with an offer of the row it is a total
  pub step_good : (q : Pair C) (o : Offer C) → Sum k (length done) q.cost → In o row.offers → Good k (step k q o)
  step_good q o s i = record { count = length done + 1; few = omega arith; sum = both s (priced row (inl refl) o i) }

  good : (p : Pair C) → In p (reached k (row ∷ done) later) → Good k p
  good = reached_good k (row ∷ done) later few priced

  -- an extension of the front is the pair of an open beginning
  extended_reached : (p : Pair C) → In p wider → In p (reached k (row ∷ done) later)
  extended_reached p h =
      let a = kept_out (λ (q : Pair C). admits row later q.load) (each_with (step k) before row.offers) p h in
      let e = each_out (step k) before row.offers p a.0 in
      let r = reached_out k done (row ∷ later) e.one (front_out k laws done (row ∷ later) few_before priced_before e.one e.one_in).stands in
      let b = r.beginning in
      let o = e.two in
      let is : p ≡ pair k (taken row b o) = e.is ∙ ap (λ (q : Pair C). step k q o) r.is in
      let room : T (admits row later (load b + o.load)) = subst (λ (q : Pair C). T (admits row later q.load)) is a.1 in
      reached_in k (row ∷ done) later p (record {
        beginning = taken row b o;
        begins = each_in (taken row) (beginnings done) row.offers b o r.begins e.two_in;
        opens = open_in row later b o (open_keeps (row ∷ later) b r.opens) room;
        is = is;
      })

  -- one entry more keeps the order of costs
  pub step_dearer : (q r : Pair C) (o : Offer C) → In o row.offers → Sum k (length done) q.cost → Sum k (length done) r.cost → NoDearer k q.cost r.cost → NoDearer k (step k q o).cost (step k r o).cost
  step_dearer q r o i s t =
      laws.grows q.cost r.cost o.entry
      (record { count = length done; few = few_before; sum = s }) (record { count = length done; few = few_before; sum = t }) (record { count = 1; few = omega arith; sum = priced row (inl refl) o i })
      (step_good q o s i) (step_good r o t i)

  -- the pair of an open beginning has an extension of the front that is no heavier and no dearer
  extended_below : (x : Pair C) → In x (reached k (row ∷ done) later) → (y : Pair C) × In y wider × T (no_worse k y x)
  extended_below x h =
      let r = reached_out k (row ∷ done) later x h in
      let e = each_out (taken row) (beginnings done) row.offers r.beginning r.begins in
      let b = e.one in
      let o = e.two in
      let opens : T (open_to later (taken row b o)) = subst (λ (c : List (Taken C)). T (open_to later c)) e.is r.opens in
      let c = front_covers k laws done (row ∷ later) few_before priced_before b e.one_in (prefix_open row later b o e.two_in opens) in
      let q = c.0 in
      let room = admits_lighter row later (q.load + o.load) (load b + o.load) (omega (arith, no_heavier k q (pair k b) c.2)) (open_admits row later b o opens) in
      let is : x ≡ pair k (taken row b o) = r.is ∙ ap (pair k) e.is in (
        step k q o,
        kept_in (λ (p : Pair C). admits row later p.load) (each_with (step k) before row.offers) (step k q o) (each_in (step k) before row.offers q o c.1 e.two_in) room,
        subst (λ (z : Pair C). T (no_worse k (step k q o) z)) (sym is) (no_worse_in k (step k q o) (pair k (taken row b o)) (omega (arith, no_heavier k q (pair k b) c.2)) (step_dearer q (pair k b) o e.two_in (sum_before q c.1) (sum_of k done priced_before b e.one_in) (no_dearer k q (pair k b) c.2))),
      )

  pub extended_good : (p : Pair C) → In p wider → Good k p
  extended_good p h = good p (extended_reached p h)

  -- a pair of the front is least among the extensions
  pub step_out : (p : Pair C) → In p (front k (row ∷ done) later) → Least (no_worse k) wider p
  step_out p h = least_part (pair_order k laws) (reached k (row ∷ done) later) wider good extended_reached extended_below p (front_out k laws (row ∷ done) later few priced p h)

  step_in : (p : Pair C) → Least (no_worse k) wider p → In p (front k (row ∷ done) later)
  step_in p m = front_in k laws (row ∷ done) later few priced p (least_whole (pair_order k laws) (reached k (row ∷ done) later) wider good extended_reached extended_below p m)

  pub front_from_front : front k (row ∷ done) later ≡ sorted k (unbeaten k wider)
  front_from_front = pareto_is k laws wider extended_good (front k (row ∷ done) later) (front_falls k laws (row ∷ done) later few priced) step_out step_in
