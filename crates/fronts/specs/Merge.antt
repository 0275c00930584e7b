-- The list step: the next front from the present one, inside a part of the list.
--   before base states       the pairs of the front before: those of the states, or the one pair of no rows where the position `base` of the first pair is 0
--   size base count          how many they are, where the front has `count` states in the list
--   offer_at os level        the offer of a level, where os holds a row's offers by their level numbers
--   offers_of os             the offers of the row, from the lowest level on
--   Fitting ps os            no sum of a pair and an offer passes 64 bits or is declined
--   comparison x q           the candidate x against q, the last one kept
--   Kept count kept old out r     after one candidate more: what is kept, the last one in front, stands behind the first `count`, and ends where the answer r says; or there is no room for it
--   Outcome count new old out r   after the step: `new` stands behind the first `count`, the rest is as it was, and the answer r is its size; or there is no room for it, and the first `count` are as they were
--   Light rows               no offer of the rows has a load of more than 60,000,000 µs
--   NextRow ps os bound row done later     what the step is told: ps is the front of the rows done, os are the offers of the row, and the row admits just the sums of loads up to the bound
--   SomeNextRow ps os bound                there are rows of which that holds
use Rattle.std.specs.Prelude.{◌≡◌, ℕ, ◌+◌, ◌^◌, ◌<◌, ◌≤◌, cond, T, List, [], ◌∷◌, map, reverse, length, take, Some, None, Ok, Err, Option, Result, ◌==◌, nat_le, slice_index_or}
use Rattle.std.specs.List.{slice_get}
use Rattle.cost.specs.Kinds.{Meaning, most_entries}
use Rattle.plans.specs.declared.states.State.{State}
use Rattle.plans.specs.Choices.{In, Offer, Row}
use Rattle.plans.specs.Fronts.{Pair, pair, front}
use Rattle.plans.specs.Plans.{laid}
use Rattle.plans.specs.Promises.{Priced, admits}
use Rattle.fronts.specs.declared.merge.PricedOffer.{PricedOffer}
use Rattle.fronts.specs.declared.merge.Full.{Full}
use Rattle.fronts.specs.declared.merge.Comparison.{Comparison}
use Rattle.fronts.specs.declared.merge.Comparison.TheVariants.{NoLighter, Lighter, LighterAndDearer}
use Rattle.fronts.specs.Merging.{offers_by}

abbrev pub before : {C : Type 0} → Meaning C → ℕ → List (State C) → List (Pair C)
before {C} k base states = cond (base == 0) (pair k [] ∷ []) (map (λ (s : State C). record { load = s.load; cost = s.cost }) states)

abbrev pub size : ℕ → ℕ → ℕ
size base count = cond (base == 0) 1 count

abbrev pub numbered_offer : {C : Type 0} → ℕ → Option (PricedOffer C) → Option (Offer C)
numbered_offer level None = None
numbered_offer level (Some o) = Some (record { level = level; load = o.load; entry = o.entry })

abbrev pub offer_at : {C : Type 0} → List (Option (PricedOffer C)) → ℕ → Option (Offer C)
offer_at os level = numbered_offer level (slice_index_or os level None)

abbrev pub offers_of : {C : Type 0} → List (Option (PricedOffer C)) → List (Offer C)
offers_of os = offers_by (offer_at os)

pub record Fitting {C : Type 0} (k : Meaning C) (ps : List (Pair C)) (os : List (Option (PricedOffer C))) : Type 0 where
  pub loads : (i level : ℕ) (p : Pair C) (o : PricedOffer C) → level < 8 → slice_get ps i ≡ Some p → slice_index_or os level None ≡ Some o → p.load + o.load < 2 ^ 64
  pub costs : (i level : ℕ) (p : Pair C) (o : PricedOffer C) → level < 8 → slice_get ps i ≡ Some p → slice_index_or os level None ≡ Some o → T (k.adds p.cost o.entry)

abbrev pub comparison : {C : Type 0} → Meaning C → State C → State C → Comparison
comparison k x q = cond (nat_le q.load x.load) NoLighter (cond (k.under x.cost q.cost) Lighter LighterAndDearer)

abbrev pub Kept : {X : Type 0} → ℕ → List X → List X → List X → Result ℕ Full → Type 0
Kept count kept old out (Ok end) = (end ≡ count + length kept) × (end ≤ length old) × (out ≡ laid count (reverse kept) old)
Kept count kept old out (Err e) = (length old < count + length kept) × (take count out ≡ take count old)

abbrev pub Outcome : {X : Type 0} → ℕ → List X → List X → List X → Result ℕ Full → Type 0
Outcome count new old out (Ok n) = (n ≡ length new) × (count + length new ≤ length old) × (out ≡ laid count new old)
Outcome count new old out (Err e) = (length old < count + length new) × (take count out ≡ take count old)

abbrev pub Light : {C : Type 0} → List (Row C) → Type 0
Light {C} rows = (r : Row C) → In r rows → (o : Offer C) → In o r.offers → o.load ≤ 60000000

pub record NextRow {C : Type 0} (k : Meaning C) (ps : List (Pair C)) (os : List (Option (PricedOffer C))) (bound : ℕ) (row : Row C) (done later : List (Row C)) : Type 0 where
  -- the rows are at most 48, their loads are small, and each entry is one of the kind
  pub few : length (row ∷ done) ≤ most_entries
  pub light : Light (row ∷ done)
  pub priced : ∥ Priced k (row ∷ done) ∥₁
  -- the front before and the row's offers, as they are held
  pub pairs : ps ≡ front k done (row ∷ later)
  pub offers : offers_of os ≡ row.offers
  -- a sum of loads up to the bound is admitted, and no other one
  pub within : (n : ℕ) → n ≤ bound → T (admits row later n)
  pub beyond : (n : ℕ) → T (admits row later n) → n ≤ bound

abbrev pub SomeNextRow : {C : Type 0} → Meaning C → List (Pair C) → List (Option (PricedOffer C)) → ℕ → Type 0
SomeNextRow {C} k ps os bound = ∥ ((row : Row C) × (done : List (Row C)) × (later : List (Row C)) × NextRow k ps os bound row done later) ∥₁
