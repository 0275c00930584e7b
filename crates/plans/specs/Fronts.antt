-- Pairs and fronts, over any kind of cost.
--   Pair C                a sum of loads in µs, and a cost
--   cost b                the cost of a beginning: zero plus its entries in the order of the rows
--   pair b                load and cost of a beginning
--   step p o              the pair p with one row more, which was given the offer o
--   no_worse p q          p is neither heavier nor dearer than q
--   same p q              p and q are no worse than each other: on totals of a kind, they are equal
--   beats p q             p differs from q, and is neither heavier nor dearer
--   unbeaten ps           those pairs of the list that no pair of the list beats
--   sorted ps             the pairs, each once, from the cheapest on
--   reached done later    the pairs of all open beginnings of the rows done, where `later` are the rows after them
--   front done later      those of them that no other such pair beats, each once, from the cheapest on
-- A front is a filter over all beginnings. The front of no rows is the one pair of load 0 and cost zero, where the smallest loads fit at all.
use Rattle.std.specs.Prelude.{ℕ, ◌+◌, Bool, cond, not, ◌&&◌, List, [], ◌∷◌, map, filter, nat_le}
use Rattle.cost.specs.Kinds.{Meaning}
use Rattle.plans.specs.Choices.{Offer, Row, Taken, some, beginnings, load, open_to}

pub record Pair (C : Type 0) : Type 0 where
  pub load : ℕ
  pub cost : C

module _ {C : Type 0} (k : Meaning C) where
  abbrev pub cost : List (Taken C) → C
  cost [] = k.none
  cost (t ∷ b) = k.plus (cost b) t.offer.entry

  abbrev pub pair : List (Taken C) → Pair C
  pair b = record { load = load b; cost = cost b }

  abbrev pub step : Pair C → Offer C → Pair C
  step p o = record { load = p.load + o.load; cost = k.plus p.cost o.entry }

  abbrev pub no_worse : Pair C → Pair C → Bool
  no_worse p q = nat_le p.load q.load && k.under p.cost q.cost

  abbrev pub same : Pair C → Pair C → Bool
  same p q = no_worse p q && no_worse q p

  abbrev pub beats : Pair C → Pair C → Bool
  beats p q = no_worse p q && not (no_worse q p)

  abbrev pub unbeaten : List (Pair C) → List (Pair C)
  unbeaten ps = filter (λ p. not (some (λ q. beats q p) ps)) ps

  -- p among pairs from the cheapest on, unless it is there already
  abbrev pub put : Pair C → List (Pair C) → List (Pair C)
  put p [] = p ∷ []
  put p (q ∷ qs) = cond (same p q) (q ∷ qs) (cond (k.under p.cost q.cost) (p ∷ q ∷ qs) (q ∷ put p qs))

  abbrev pub sorted : List (Pair C) → List (Pair C)
  sorted [] = []
  sorted (p ∷ ps) = put p (sorted ps)

  abbrev pub reached : List (Row C) → List (Row C) → List (Pair C)
  reached done later = map pair (filter (open_to later) (beginnings done))

  abbrev pub front : List (Row C) → List (Row C) → List (Pair C)
  front done later = sorted (unbeaten (reached done later))
