-- Merging the extensions of a front, from the cheapest on, as functions on lists. A row has 8 levels at most, by their numbers.
--   sum_of p                          the load and the cost of a pair
--   state_of level position s         a load and a cost as a candidate for the next front
--   given o                           the list of what there is
--   offers_by offered                 the offers of a row from the lowest level on, where `offered` has one or none for each level
--   sum_at ps offered level i         load and cost that the offer of a level makes of the pair at index i of the front before
--   head_at base ps offered level i   the same as a candidate, where the first pair of that front has the position `base`
--   heads_of base sums cursors level  the candidate of a level: its load and cost, and the index that its cursor stands at
--   cheaper found other               the cheaper of two, the one found first at equal cost
--   cheapest heads n                  the cheapest candidate of the first n levels, that of the lowest level at equal cost
--   put kept x                        the kept candidates, the last one in front, with one more that is no cheaper than they are
--   keep bound kept x                 the same, where one that is heavier than the bound is passed over
use Rattle.std.specs.Prelude.{ℕ, zero, suc, ◌+◌, cond, List, [], ◌∷◌, Some, None, Option, nat_le, slice_index, slice_index_or}
use Rattle.std.specs.List.{range_with_len, flat_map, slice_get}
use Rattle.cost.specs.Kinds.{Meaning}
use Rattle.plans.specs.declared.states.State.{State}
use Rattle.plans.specs.Choices.{Offer}
use Rattle.plans.specs.Fronts.{Pair, step}

abbrev pub sum_of : {C : Type 0} → Option (Pair C) → Option (ℕ × C)
sum_of None = None
sum_of (Some p) = Some (p.load, p.cost)

abbrev pub state_of : {C : Type 0} → ℕ → ℕ → Option (ℕ × C) → Option (State C)
state_of level position None = None
state_of level position (Some s) = Some (record { load = s.0; cost = s.1; level = level; position = position })

abbrev pub given : {X : Type 0} → Option X → List X
given None = []
given (Some x) = x ∷ []

abbrev pub offers_by : {C : Type 0} → (ℕ → Option (Offer C)) → List (Offer C)
offers_by offered = flat_map (λ level. given (offered level)) (range_with_len 0 8)

module _ {C : Type 0} (k : Meaning C) where
  -- the pair with one row more, if both the pair and the offer are there
  abbrev pub stepped : Option (Pair C) → Option (Offer C) → Option (Pair C)
  stepped None o = None
  stepped (Some q) None = None
  stepped (Some q) (Some o) = Some (step k q o)

  abbrev pub sum_at : List (Pair C) → (ℕ → Option (Offer C)) → ℕ → ℕ → Option (ℕ × C)
  sum_at ps offered level i = sum_of (stepped (slice_get ps i) (offered level))

  abbrev pub head_at : ℕ → List (Pair C) → (ℕ → Option (Offer C)) → ℕ → ℕ → Option (State C)
  head_at base ps offered level i = state_of level (base + i) (sum_at ps offered level i)

abbrev pub heads_of : {C : Type 0} → ℕ → List (Option (ℕ × C)) → List ℕ → ℕ → Option (State C)
heads_of base sums cursors level = state_of level (base + slice_index cursors level) (slice_index_or sums level None)

module _ {C : Type 0} (k : Meaning C) where
  abbrev pub cheaper : Option (State C) → Option (State C) → Option (State C)
  cheaper None other = other
  cheaper (Some x) None = Some x
  cheaper (Some x) (Some y) = cond (k.under x.cost y.cost) (Some x) (Some y)

  abbrev pub cheapest : (ℕ → Option (State C)) → ℕ → Option (State C)
  cheapest heads zero = None
  cheapest heads (suc n) = cheaper (cheapest heads n) (heads n)

  -- no lighter than the last one kept: dropped; lighter at its cost: it takes the place; lighter and dearer: kept behind it
  abbrev pub put : List (State C) → State C → List (State C)
  put [] x = x ∷ []
  put (q ∷ kept) x = cond (nat_le q.load x.load) (q ∷ kept) (cond (k.under x.cost q.cost) (x ∷ kept) (x ∷ q ∷ kept))

  abbrev pub keep : ℕ → List (State C) → State C → List (State C)
  keep bound kept x = cond (nat_le x.load bound) (put kept x) kept
