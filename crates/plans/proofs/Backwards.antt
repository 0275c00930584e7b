-- The way back through the fronts ends in an open beginning with the pair that it started from.
use Rattle.std.proofs.Common.{◌≡◌, ◌+◌, ◌≤◌, T, List, [], ◌∷◌, length, Some, sym, refl, ap, ◌∙◌, subst, inl, inr, arith}
use Rattle.std.specs.List.{slice_get}
use Rattle.cost.specs.Kinds.{Meaning, most_entries, Laws}
use Rattle.plans.specs.Choices.{In, Row, Taken, taken, each_with, beginnings, load, open_to}
use Rattle.plans.specs.Fronts.{Pair, pair, step, same, front}
use Rattle.plans.specs.Places.{Source, completed, onward, back}
use Rattle.plans.specs.Promises.{Priced, admits}
use Rattle.plans.proofs.Members.{kept_out, each_in, each_out, nth_in, only}
use Rattle.plans.proofs.Opening.{open_keeps, open_in}
use Rattle.plans.proofs.Ordering.{same_in, same_pair, pair_order}
use Rattle.plans.proofs.Reaching.{reached_out, front_out, front_good}
use Rattle.plans.proofs.Stepping.{sum_before, step_good, step_out}
use Rattle.plans.proofs.Sources.{completed_finds}

-- where a pair of the front of the row came from, and that the row admits it
pub record Came {C : Type 0} (k : Meaning C) (row : Row C) (done later : List (Row C)) (p : Pair C) : Type 0 where
  pub from : Source C
  pub is : completed k p (front k done (row ∷ later)) row.offers ≡ Some from
  pub offer_in : In from.offer row.offers
  pub stands : slice_get (front k done (row ∷ later)) from.index ≡ Some from.before
  pub makes : step k from.before from.offer ≡ p
  pub room : T (admits row later p.load)

pub record Back {C : Type 0} (k : Meaning C) (done later : List (Row C)) (p : Pair C) : Type 0 where
  pub begins : In (back k done later p) (beginnings done)
  pub opens : T (open_to later (back k done later p))
  pub is : pair k (back k done later p) ≡ p

module _ {C : Type 0} (k : Meaning C) (laws : Laws k) where
  -- every pair of a front has a source
  pub came : (row : Row C) (done later : List (Row C)) → length (row ∷ done) ≤ most_entries → Priced k (row ∷ done) → (p : Pair C) → In p (front k (row ∷ done) later) → Came k row done later p
  came row done later few priced p h =
      let before = front k done (row ∷ later) in
      let a = kept_out (λ (q : Pair C). admits row later q.load) (each_with (step k) before row.offers) p (step_out k laws row done later few priced p h).stands in
      let e = each_out (step k) before row.offers p a.0 in
      let gp = front_good k laws (row ∷ done) later few priced p h in
      let self = (pair_order k laws).self p gp in
      let hit : T (same k (step k e.one e.two) p) = subst (λ (x : Pair C). T (same k x p)) e.is (same_in k p p self self) in
      let f = completed_finds k p before row.offers e.two e.two_in e.one e.one_in hit in
      let q = f.from.before in
      let o = f.from.offer in
      let gs = step_good k laws row done later few priced q o (sum_before k laws row done later few priced q (nth_in before f.from.index q f.stands)) f.offer_in in
      record { from = f.from; is = f.is; offer_in = f.offer_in; stands = f.stands; makes = same_pair k laws (step k q o) p gs gp f.makes; room = a.1 }

  -- the way back goes on from the pair before
  pub back_step : (row : Row C) (done later : List (Row C)) (p : Pair C) (c : Came k row done later p) → back k (row ∷ done) later p ≡ taken row (back k done (row ∷ later) c.from.before) c.from.offer
  back_step row done later p c = ap (λ r. onward row r (back k done (row ∷ later))) c.is

  onto : (row : Row C) (done later : List (Row C)) (p : Pair C) (c : Came k row done later p) → Back k done (row ∷ later) c.from.before → Back k (row ∷ done) later p
  onto row done later p c before =
      let o = c.from.offer in
      let b = back k done (row ∷ later) c.from.before in
      let is = back_step row done later p c in
      let whole : pair k (taken row b o) ≡ p = ap (λ (x : Pair C). step k x o) before.is ∙ c.makes in
      let room : T (admits row later (load b + o.load)) = subst (λ (x : Pair C). T (admits row later x.load)) (sym whole) c.room in
      record {
        begins = subst (λ (x : List (Taken C)). In x (beginnings (row ∷ done))) (sym is) (each_in (taken row) (beginnings done) row.offers b o before.begins c.offer_in);
        opens = subst (λ (x : List (Taken C)). T (open_to later x)) (sym is) (open_in row later b o (open_keeps (row ∷ later) b before.opens) room);
        is = ap (pair k) is ∙ whole;
      }

  pub back_finds : (done later : List (Row C)) → length done ≤ most_entries → Priced k done → (p : Pair C) → In p (front k done later) → Back k done later p
  back_finds [] later few priced p h =
      let r = reached_out k [] later p (front_out k laws [] later few priced p h).stands in
      let e : r.beginning ≡ [] = only r.begins in
      record { begins = inl refl; opens = subst (λ (x : List (Taken C)). T (open_to later x)) e r.opens; is = sym (r.is ∙ ap (pair k) e) }
  back_finds (row ∷ done) later few priced p h =
      let c = came row done later few priced p h in
      onto row done later p c (back_finds done (row ∷ later) (omega arith) (λ r i. priced r (inr i)) c.from.before (nth_in (front k done (row ∷ later)) c.from.index c.from.before c.stands))
