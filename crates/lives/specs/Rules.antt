-- The rules of books.
--   Rule               periodic tasks at a capacity, or sporadic tasks at a clock
--   rows_of rule k b   the rows that the rule makes of the book
--   Fit rule b         the book is fit to be planned: an admissible processor, at most 48 ports, and tasks as the rule has them
use Rattle.std.specs.Prelude.{◌≡◌, ◌≤◌, true, List, length}
use Rattle.board.specs.Processors.{ProcessorFigures, processor_fits}
use Rattle.cost.specs.Kinds.{Meaning}
use Rattle.plans.specs.Choices.{Row}
use Rattle.tally.specs.Tally.{Tally}
use Rattle.tally.specs.Boards.{periodic_tasks, sporadic_tasks}
use Rattle.tally.specs.Books.{BookFigures}
use Rattle.tally.specs.Plans.{periodic_rows_of, sporadic_rows_of}

pub data Rule : Type 0 where
  periodic : Rule
  sporadic : Rule

abbrev pub rows_of : {C : Type 0} → Rule → Meaning C → BookFigures → List (Row C)
rows_of periodic k b = periodic_rows_of k b
rows_of sporadic k b = sporadic_rows_of k b

abbrev pub tasks_fit : Rule → ProcessorFigures → Tally → Type 0
tasks_fit periodic p t = periodic_tasks p t.tasks ≡ true
tasks_fit sporadic p t = sporadic_tasks p t.tasks ≡ true

pub record Fit (rule : Rule) (b : BookFigures) : Type 0 where
  pub processor : processor_fits b.processor ≡ true
  pub few : length b.tally.tasks ≤ 48
  pub tasks : tasks_fit rule b.processor b.tally
