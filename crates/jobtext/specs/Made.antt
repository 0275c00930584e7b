-- What a call makes of the book of a job.
--   Made C              what comes of a call: its answer, the book after it, the levels of its plan, and what it makes of the list
--   Comes m r b levels found list   of the call came just m: the answer r, the book b, the levels, and the list that held `found`
--   rows_in k b         the rows of the book
--   done r, given r     the answer of a call that is no plan, which has no figures, and of a plan, which has them
--   made k room b call  what comes of the call, with a list of `room` places and a levels buffer of 48 bytes
use Rattle.std.specs.Prelude.{◌≡◌, ℕ, List, replicate, Some, None, Ok, Err, Option, Result}
use Rattle.board.specs.declared.faults.Fault.{Fault}
use Rattle.cost.specs.Kinds.{Meaning}
use Rattle.plans.specs.declared.figures.Figures.{Figures}
use Rattle.plans.specs.declared.states.State.{State}
use Rattle.plans.specs.Choices.{Row}
use Rattle.plans.specs.Plans.{planned, list_after, levels_after}
use Rattle.tally.specs.Books.{answer, after}
use Rattle.tally.specs.Plans.{at_capacity, periodic_rows_of, sporadic_rows_of, periodic_trial}
use Rattle.jobtext.specs.declared.headers.Rule.{Rule}
use Rattle.jobtext.specs.declared.headers.Rule.TheVariants.{Periodic, Sporadic}
use Rattle.jobtext.specs.Calls.{CallOfJob, to_change, to_plan, to_try}
use Rattle.jobtext.specs.Books.{JobBook, job_book}

pub record Made (C : Type 0) : Type 0 where
  pub answer : Result (Option (Figures C)) Fault
  pub book : JobBook
  pub levels : List ℕ
  -- what the list holds, where it held `found` before; where that is open, it is whatever was `left`
  pub list : List (State C) → List (State C) → List (State C)

pub record Comes {C : Type 0} (m : Made C) (r : Result (Option (Figures C)) Fault) (b : JobBook) (levels : List ℕ) (found list : List (State C)) : Type 0 where
  pub answers : r ≡ m.answer
  pub keeps : b ≡ m.book
  pub tells : levels ≡ m.levels
  pub lays : list ≡ m.list found list

abbrev pub rows_by : {C : Type 0} → Meaning C → Rule → JobBook → List (Row C)
rows_by k Periodic b = periodic_rows_of k b.figures
rows_by k Sporadic b = sporadic_rows_of k b.figures

abbrev pub rows_in : {C : Type 0} → Meaning C → JobBook → List (Row C)
rows_in k b = rows_by k b.rule b

abbrev pub done : {C : Type 0} → Result Unit Fault → Result (Option (Figures C)) Fault
done (Ok x) = Ok None
done (Err fault) = Err fault

abbrev pub given : {C : Type 0} → Result (Figures C) Fault → Result (Option (Figures C)) Fault
given (Ok f) = Ok (Some f)
given (Err fault) = Err fault

-- the levels buffer of a job, before a plan
abbrev pub no_levels : List ℕ
no_levels = replicate 48 0

-- a plan of the rows with the answer r, which leaves the book as it is
abbrev pub asked : {C : Type 0} → Meaning C → JobBook → List (Row C) → Result (Figures C) Fault → Made C
asked k b rows r = record { answer = given r; book = b; levels = levels_after k rows r no_levels; list = list_after k rows r }

abbrev pub made : {C : Type 0} → Meaning C → ℕ → JobBook → CallOfJob → Made C
made k room b (to_change call) = record { answer = done (answer b.figures call); book = job_book b.rule (after b.figures call); levels = no_levels; list = λ found left. found }
made k room b to_plan = asked k b (rows_in k b) (planned k room 48 (rows_in k b))
made k room b (to_try capacity) = asked k b (periodic_rows_of k (at_capacity b.figures capacity)) (periodic_trial k b.figures capacity room 48)

-- what a call that changes what stands answers, and the book after it; nothing is said of plans and trials
abbrev pub Changed : JobBook → CallOfJob → Result Unit Fault → JobBook → Type 0
Changed b (to_change call) r c = (r ≡ answer b.figures call) × (c ≡ job_book b.rule (after b.figures call))
Changed b to_plan r c = Unit {0}
Changed b (to_try capacity) r c = Unit {0}
