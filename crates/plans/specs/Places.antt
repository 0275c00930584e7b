-- The list of places, and the way back through it.
--   Source C             an offer, the pair of the front before that it completes, and that pair's index in its front
--   source p o index qs  the first pair of qs that the offer completes to p; indices count on from `index`
--   completed p qs os    how p came about: the first of the offers, so the lowest level, that completes a pair of the front qs to p
--   placed base p s      the place of the pair p, where `base` is the position of the first pair of the front before
--   next_places base row done later    the places of the front of the row
--   listed base done later             the places of the fronts of the later rows, one front behind the other
--   places rows          the fronts in order, each from its cheapest pair
--   sizes done later     the sizes of the fronts of the later rows, added up
--   back done later p    the beginning with the pair p: from the latest row on, each takes the lowest level that completes a pair of the front before
--   best rows            the cheapest pair of the last front
--   chosen rows          the choice that is the plan: the way back from the cheapest pair
use Rattle.std.specs.Prelude.{ℕ, ◌+◌, cond, List, [], ◌∷◌, ◌++◌, map, reverse, length, Some, None, Option}
use Rattle.cost.specs.Kinds.{Meaning}
use Rattle.plans.specs.declared.states.State.{State}
use Rattle.plans.specs.Choices.{Offer, Row, Taken, taken}
use Rattle.plans.specs.Fronts.{Pair, pair, step, same, front}

pub record Source (C : Type 0) : Type 0 where
  pub offer : Offer C
  pub before : Pair C
  pub index : ℕ

-- the first of two that there is
abbrev pub or_else : {X : Type 0} → Option X → Option X → Option X
or_else (Some x) other = Some x
or_else None other = other

-- every pair of a front has a source, so that the first line is never asked for
abbrev pub placed : {C : Type 0} → ℕ → Pair C → Option (Source C) → State C
placed base p None = record { load = p.load; cost = p.cost; level = 0; position = 0 }
placed base p (Some s) = record { load = p.load; cost = p.cost; level = s.offer.level; position = base + s.index }

-- the row takes the offer, and the rows before it what leads to the pair before
abbrev pub onward : {C : Type 0} → Row C → Option (Source C) → (Pair C → List (Taken C)) → List (Taken C)
onward row None rest = []
onward row (Some s) rest = taken row (rest s.before) s.offer

module _ {C : Type 0} (k : Meaning C) where
  abbrev pub source : Pair C → Offer C → ℕ → List (Pair C) → Option (Source C)
  source p o index [] = None
  source p o index (q ∷ qs) = cond (same k (step k q o) p) (Some (record { offer = o; before = q; index = index })) (source p o (index + 1) qs)

  abbrev pub completed : Pair C → List (Pair C) → List (Offer C) → Option (Source C)
  completed p qs [] = None
  completed p qs (o ∷ os) = or_else (source p o 0 qs) (completed p qs os)

  abbrev pub next_places : ℕ → Row C → List (Row C) → List (Row C) → List (State C)
  next_places base row done later = map (λ p. placed base p (completed p (front k done (row ∷ later)) row.offers)) (front k (row ∷ done) later)

  abbrev pub listed : ℕ → List (Row C) → List (Row C) → List (State C)
  listed base done [] = []
  listed base done (row ∷ later) = next_places base row done later ++ listed (base + length (front k done (row ∷ later))) (row ∷ done) later

  -- the one pair of no rows has the position 0, so that the positions of the list start at 1
  abbrev pub places : List (Row C) → List (State C)
  places rows = listed 0 [] rows

  abbrev pub sizes : List (Row C) → List (Row C) → ℕ
  sizes done [] = 0
  sizes done (row ∷ later) = length (front k (row ∷ done) later) + sizes (row ∷ done) later

  abbrev pub back : List (Row C) → List (Row C) → Pair C → List (Taken C)
  back [] later p = []
  back (row ∷ done) later p = onward row (completed p (front k done (row ∷ later)) row.offers) (back done (row ∷ later))

  abbrev pub cheapest : List (Pair C) → Pair C
  cheapest [] = pair k []
  cheapest (p ∷ ps) = p

  abbrev pub best : List (Row C) → Pair C
  best rows = cheapest (front k (reverse rows) [])

  abbrev pub chosen : List (Row C) → List (Taken C)
  chosen rows = back (reverse rows) [] (best rows)
