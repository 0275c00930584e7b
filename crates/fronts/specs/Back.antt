-- The way back through the list of states, and the levels that it picks.
--   first_position k done later      the position in the list, counted from 1, of the first pair of the front of the rows done; 0 of no rows
--   FrontsStand k rows list last     the smallest loads of the rows keep the limits; the list begins with their fronts, the last of them at the position last
--   picked k rows                    for each port from 1 to 48 the level that the plan gives its row, none where the port has no row
use Rattle.std.specs.Prelude.{◌≡◌, ℕ, ◌+◌, T, List, [], ◌∷◌, map, reverse, length, take, Option}
use Rattle.std.specs.List.{range_with_len}
use Rattle.cost.specs.Kinds.{Meaning}
use Rattle.plans.specs.declared.states.State.{State}
use Rattle.plans.specs.Choices
use Rattle.plans.specs.Choices.{fits}
use Rattle.plans.specs.Fronts.{front}
use Rattle.plans.specs.Places.{places, chosen}
use Rattle.plans.specs.Plans.{level_at}

abbrev pub first_position : {C : Type 0} → Meaning C → List (Choices.Row C) → List (Choices.Row C) → ℕ
first_position k [] later = 0
first_position k (row ∷ done) later = first_position k done (row ∷ later) + length (front k done (row ∷ later))

pub record FrontsStand {C : Type 0} (k : Meaning C) (rows : List (Choices.Row C)) (list : List (State C)) (last : ℕ) : Type 0 where
  pub kept : T (fits 0 rows)
  pub held : take (length (places k rows)) list ≡ places k rows
  pub start : last ≡ first_position k (reverse rows) []

abbrev pub picked : {C : Type 0} → Meaning C → List (Choices.Row C) → List (Option ℕ)
picked k rows = map (level_at (chosen k rows)) (range_with_len 1 48)
