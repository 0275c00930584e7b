-- The steps of planning.
--   price_of k o                 what a level offers, at the price of the kind
--   LastFront rows list m        the last front stands in the list, where m says
--   LaidFronts rows old out m    all fronts stand in the list from its start on
--   MadeFronts rows old out r    so they do, or the first that has no room is named
use Rattle.std.specs.Prelude.{◌≡◌, ◌+◌, ◌≤◌, List, [], reverse, length, take, drop, Some, None, Ok, Err, Option, Result}
use Rattle.board.specs.declared.faults.Fault.{Fault}
use Rattle.board.specs.declared.offers.Offer.{Offer}
use Rattle.cost.specs.Kinds.{Meaning}
use Rattle.plans.specs.declared.states.State.{State}
use Rattle.plans.specs.Choices.{Row}
use Rattle.plans.specs.Fronts.{front}
use Rattle.plans.specs.Places.{places, sizes}
use Rattle.plans.specs.Plans.{laid, list_full}
use Rattle.fronts.specs.declared.merge.PricedOffer.{PricedOffer}
use Rattle.fronts.specs.declared.plan.Made.{Made}
use Rattle.fronts.specs.Back.{first_position}
use Rattle.fronts.specs.Merge.{before}

abbrev pub price_of : {C : Type 0} → Meaning C → Option Offer → Option (PricedOffer C)
price_of k None = None
price_of k (Some o) = Some (record { load = o.measure.load; entry = k.worth o.measure })

-- the last front stands in the list
pub record LastFront {C : Type 0} (k : Meaning C) (rows : List (Row C)) (list : List (State C)) (m : Made) : Type 0 where
  pub ends : m.last.start + m.last.count ≤ length list
  pub pairs : before k m.last.base (take m.last.count (drop m.last.start list)) ≡ front k (reverse rows) []
  pub position : m.last.base ≡ first_position k (reverse rows) []

-- all fronts stand
pub record LaidFronts {C : Type 0} (k : Meaning C) (rows : List (Row C)) (old out : List (State C)) (m : Made) : Type 0 where
  pub room : list_full k (length old) [] rows ≡ None
  pub list : out ≡ laid 0 (places k rows) old
  pub states : m.states ≡ sizes k [] rows
  pub within : m.states ≤ length old
  pub last : LastFront k rows out m

abbrev pub MadeFronts : {C : Type 0} → Meaning C → List (Row C) → List (State C) → List (State C) → Result Made Fault → Type 0
MadeFronts k rows old out (Ok m) = LaidFronts k rows old out m
MadeFronts k rows old out (Err fault) = list_full k (length old) [] rows ≡ Some fault
