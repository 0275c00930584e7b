-- No sum of a front's pair and an offer passes 64 bits or is declined.
use Rattle.std.proofs.Common.{◌≡◌, ℕ, ◌+◌, ◌*◌, ◌^◌, ◌<◌, ◌≤◌, T, List, [], ◌∷◌, length, get_or, Some, None, Option, refl, ap, subst, inl, inr, arith}
use mathlib.Core.Logic.{∥∥₁_elim}
use native.Mathlib.Bridge.{le_prop}
use lib.Dec.{T_prop}
use Rattle.std.specs.List.{slice_get}
use Rattle.cost.specs.Kinds.{Meaning, Laws}
use Rattle.plans.specs.Choices.{In, Offer, Row, Taken, taken, beginnings, load}
use Rattle.plans.specs.Fronts.{Pair, front}
use Rattle.plans.specs.Promises.{Priced}
use Rattle.plans.proofs.Members.{only, nth_in, each_out}
use Rattle.plans.proofs.Reaching.{reached_out, front_out}
use Rattle.plans.proofs.Stepping.{sum_before, step_good}
use Rattle.fronts.specs.declared.merge.PricedOffer.{PricedOffer}
use Rattle.fronts.specs.Merge.{numbered_offer, offer_at, Fitting, Light, NextRow, SomeNextRow}
use Rattle.fronts.proofs.Offering.{offer_listed}
use Rattle.fronts.proofs.Looping.{numbered}

-- the load of a beginning is bounded by the number of its rows
load_light : {C : Type 0} (done : List (Row C)) → Light done → (b : List (Taken C)) → In b (beginnings done) → load b ≤ length done * 60000000
load_light {C} [] light b h = omega (arith, ap (λ (t : List (Taken C)). load t) (only h))
load_light {C} (row ∷ done) light b h =
    let e = each_out (taken row) (beginnings done) row.offers b h in
    omega (arith, ap (λ (t : List (Taken C)). load t) e.is, load_light done (λ r i. light r (inr i)) e.one e.one_in, light row (inl refl) e.two e.two_in)

module _ {C : Type 0} (k : Meaning C) (laws : Laws k) (ps : List (Pair C)) (os : List (Option (PricedOffer C))) (bound : ℕ) (row : Row C) (done later : List (Row C)) (turn : NextRow k ps os bound row done later)
    (i level : ℕ) (p : Pair C) (o : PricedOffer C) (low : level < 8) (stands : slice_get ps i ≡ Some p) (offered : get_or os level None ≡ Some o) where
  abbrev offer : Offer C
  offer = record { level = level; load = o.load; entry = o.entry }

  offer_in : In offer row.offers
  offer_in = subst (In offer) turn.offers (offer_listed (offer_at os) (numbered os) level offer low (ap (numbered_offer level) offered))

  pair_in : In p (front k done (row ∷ later))
  pair_in = subst (In p) turn.pairs (nth_in ps i p stands)

  sum_fits : Priced k (row ∷ done) → p.load + o.load < 2 ^ 64
  sum_fits priced =
      let r = reached_out k done (row ∷ later) p (front_out k laws done (row ∷ later) (omega (arith, turn.few)) (λ s h. priced s (inr h)) p pair_in).stands in
      omega (arith, turn.few, ap (λ (q : Pair C). q.load) r.is, load_light done (λ s h. turn.light s (inr h)) r.beginning r.begins, turn.light row (inl refl) offer offer_in)

  sum_answered : Priced k (row ∷ done) → T (k.adds p.cost o.entry)
  sum_answered priced =
      let s = sum_before k laws row done later turn.few priced p pair_in in
      laws.added p.cost o.entry (record { count = length done; few = omega (arith, turn.few); sum = s }) (record { count = 1; few = omega arith; sum = priced row (inl refl) offer offer_in })
      (step_good k laws row done later turn.few priced p offer s offer_in)

pub sums_fit : {C : Type 0} (k : Meaning C) (laws : Laws k) (ps : List (Pair C)) (os : List (Option (PricedOffer C))) (bound : ℕ) → SomeNextRow k ps os bound → Fitting k ps os
sums_fit k laws ps os bound some_row = record {
  loads = λ i level p o low e f. ∥∥₁_elim some_row le_prop (λ s. ∥∥₁_elim s.3.priced le_prop (sum_fits k laws ps os bound s.0 s.1 s.2 s.3 i level p o low e f));
  costs = λ i level p o low e f. ∥∥₁_elim some_row (T_prop (k.adds p.cost o.entry)) (λ s. ∥∥₁_elim s.3.priced (T_prop (k.adds p.cost o.entry)) (sum_answered k laws ps os bound s.0 s.1 s.2 s.3 i level p o low e f));
}
