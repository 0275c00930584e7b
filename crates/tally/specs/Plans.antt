-- What a book answers when it is asked for a plan, or for a trial at another capacity.
--   periodic_rows_of k b          the rows of a periodic book
--   sporadic_rows_of k b          the rows of a sporadic book
--   at_capacity b capacity        the book, if it had this capacity
--   periodic_plan k b room buffer      the plan of a periodic book with a list of `room` places and a levels buffer of `buffer` bytes
--   periodic_trial k b capacity room buffer    the plan at this capacity, unless the capacity is declined
--   sporadic_plan k b room buffer      the plan of a sporadic book
use Rattle.std.specs.Prelude.{ℕ, List, Some, None, Err, Option, Result}
use Rattle.board.specs.declared.faults.Fault.{Fault}
use Rattle.cost.specs.Kinds.{Meaning}
use Rattle.plans.specs.declared.figures.Figures.{Figures}
use Rattle.plans.specs.Choices.{Row}
use Rattle.plans.specs.Plans.{planned}
use Rattle.tally.specs.Tally.{set_capacity, trial}
use Rattle.tally.specs.Refusals.{refused}
use Rattle.tally.specs.Steps.{changed}
use Rattle.tally.specs.Books.{BookFigures, book_figures}
use Rattle.tally.specs.Boards.{periodic_board, sporadic_board}

abbrev pub at_capacity : BookFigures → ℕ → BookFigures
at_capacity b capacity = book_figures b.processor (changed b.tally (set_capacity capacity))

abbrev pub unless_declined : {C : Type 0} → Option Fault → Result (Figures C) Fault → Result (Figures C) Fault
unless_declined None r = r
unless_declined (Some fault) r = Err fault

module _ {C : Type 0} (k : Meaning C) (b : BookFigures) where
  abbrev pub periodic_rows_of : List (Row C)
  periodic_rows_of = periodic_board k b.processor b.tally

  abbrev pub sporadic_rows_of : List (Row C)
  sporadic_rows_of = sporadic_board k b.processor b.tally

  abbrev pub periodic_plan : ℕ → ℕ → Result (Figures C) Fault
  periodic_plan room buffer = planned k room buffer periodic_rows_of

  abbrev pub sporadic_plan : ℕ → ℕ → Result (Figures C) Fault
  sporadic_plan room buffer = planned k room buffer sporadic_rows_of

abbrev pub periodic_trial : {C : Type 0} → Meaning C → BookFigures → ℕ → ℕ → ℕ → Result (Figures C) Fault
periodic_trial k b capacity room buffer = unless_declined (refused b.processor b.tally (trial capacity)) (periodic_plan k (at_capacity b capacity) room buffer)
