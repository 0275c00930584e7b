-- Planning: its answer, and what the list and the levels buffer hold after it.
--   last_limit rows              the limit of the last row in µs, 0 with no rows
--   figures rows                 what a plan answers: cost and load of the cheapest pair of the last front, the last limit, the states
--   short_buffer buffer          31: the levels buffer, of so many bytes, has no room for all ports
--   none_fits sum rows           32, with the port of the first row whose limit the smallest loads so far pass
--   list_full room done later    33, with the port of the first later row whose front does not fit the room that the fronts before left
--   refusal room buffer rows     the first of them that applies to a list of `room` places and a levels buffer of `buffer` bytes
--   planned room buffer rows     the answer of planning: the figures, or the fault
--   laid count new old           `new` stands behind the first `count` of `old`, and the rest is as it was
--   list_after rows r found left     the list after the answer r, where it held `found` before; after 33 it is open, so that it holds whatever was `left`
--   level_at b port              the level that the beginning gives the row of the port, if there is one
--   level_byte level             the level, or 255 where the port has no task
--   levels_after rows r found    the levels buffer after the answer r, where it held `found` before: the levels of ports 1 to 48, and the rest is as it was
use Rattle.std.specs.Prelude.{ℕ, ◌+◌, ◌-◌, cond, List, [], ◌∷◌, ◌++◌, map, length, take, drop, Some, None, Ok, Err, Option, Result, ◌==◌, nat_le, nat_lt}
use Rattle.std.specs.List.{range_with_len}
use Rattle.board.specs.declared.faults.Fault.{Fault}
use Rattle.board.specs.declared.faults.Fault.TheVariants.{ShortBuffer, NoneFits, ListFull}
use Rattle.board.specs.Faults.{numbered}
use Rattle.cost.specs.Kinds.{Meaning}
use Rattle.plans.specs.declared.states.State.{State}
use Rattle.plans.specs.declared.figures.Figures.{Figures}
use Rattle.plans.specs.Choices.{Row, Taken, smallest}
use Rattle.plans.specs.Fronts.{front}
use Rattle.plans.specs.Places.{or_else, places, sizes, best, chosen}

abbrev pub last_limit : {C : Type 0} → List (Row C) → ℕ
last_limit [] = 0
last_limit (row ∷ []) = row.limit
last_limit (row ∷ (next ∷ rows)) = last_limit (next ∷ rows)

abbrev pub short_buffer : ℕ → Option Fault
short_buffer buffer = cond (nat_lt buffer 48) (Some ShortBuffer) None

abbrev pub none_fits : {C : Type 0} → ℕ → List (Row C) → Option Fault
none_fits sum [] = None
none_fits sum (row ∷ later) = cond (nat_le (sum + smallest row.offers) row.limit) (none_fits (sum + smallest row.offers) later) (Some (NoneFits row.port))

abbrev pub unless : {C : Type 0} → Option Fault → Figures C → Result (Figures C) Fault
unless None f = Ok f
unless (Some fault) f = Err fault

abbrev pub laid : {X : Type 0} → ℕ → List X → List X → List X
laid count new old = take count old ++ (new ++ drop (count + length new) old)

abbrev pub level_at : {C : Type 0} → List (Taken C) → ℕ → Option ℕ
level_at [] port = None
level_at (t ∷ b) port = cond (t.row.port == port) (Some t.offer.level) (level_at b port)

abbrev pub level_byte : Option ℕ → ℕ
level_byte None = 255
level_byte (Some level) = level

module _ {C : Type 0} (k : Meaning C) where
  abbrev pub figures : List (Row C) → Figures C
  figures rows = record { cost = (best k rows).cost; load = (best k rows).load; limit = last_limit rows; states = sizes k [] rows }

  abbrev pub list_full : ℕ → List (Row C) → List (Row C) → Option Fault
  list_full room done [] = None
  list_full room done (row ∷ later) =
      cond (nat_lt room (length (front k (row ∷ done) later))) (Some (ListFull row.port)) (list_full (room - length (front k (row ∷ done) later)) (row ∷ done) later)

  abbrev pub refusal : ℕ → ℕ → List (Row C) → Option Fault
  refusal room buffer rows = or_else (short_buffer buffer) (or_else (none_fits 0 rows) (list_full room [] rows))

  abbrev pub planned : ℕ → ℕ → List (Row C) → Result (Figures C) Fault
  planned room buffer rows = unless (refusal room buffer rows) (figures rows)

  abbrev pub list_after : List (Row C) → Result (Figures C) Fault → List (State C) → List (State C) → List (State C)
  list_after rows (Ok f) found left = laid 0 (places k rows) found
  list_after rows (Err fault) found left = cond ((numbered fault).number == 33) left found

  abbrev pub levels_after : List (Row C) → Result (Figures C) Fault → List ℕ → List ℕ
  levels_after rows (Ok f) found = laid 0 (map (λ port. level_byte (level_at (chosen k rows) port)) (range_with_len 1 48)) found
  levels_after rows (Err fault) found = found
