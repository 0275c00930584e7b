-- The boards of a tally: what is planned, and which tallies have the same plans.
--   periodic_board k p t      the rows of the tally's tasks in a periodic book, at the tally's capacity
--   sporadic_board k p t      the rows of the tally's tasks in a sporadic book, at the tally's clock
--   top_offered p task        the task is offered the top level
--   has_period due            it is a period in range; has_deadline: it is a deadline
--   on_task test task         the test holds of the task, if there is one
--   periodic_tasks p ts       each task that stands is fit for a periodic book of the processor, and their hyperperiod is at most 60,000,000 µs
--   sporadic_tasks p ts       each task that stands is fit for a sporadic book of the processor
--   Match t u                 clock and capacity are equal, and the tasks the same but for a renumbering of the ports
use Rattle.std.specs.Prelude.{◌≡◌, Bool, true, false, ◌&&◌, List, Some, None, Option, nat_le}
use Rattle.std.specs.List.{list_all}
use Rattle.board.specs.declared.dues.Due.{Due}
use Rattle.board.specs.declared.dues.Due.TheVariants.{Period, Deadline}
use Rattle.board.specs.Processors.{ProcessorFigures}
use Rattle.board.specs.Periods.{period_fits, longest}
use Rattle.board.specs.Tasks.{FiguresOfTask, figures_fit, busy_time, top_speed}
use Rattle.board.specs.Measures.{most_time}
use Rattle.cost.specs.Kinds.{Meaning}
use Rattle.cost.specs.Sums.{Reordered}
use Rattle.plans.specs.Choices.{Row}
use Rattle.plans.specs.Boards.{standing, joint_period, periodic_rows, sporadic_rows}
use Rattle.tally.specs.Tally.{Tally}

module _ {C : Type 0} (k : Meaning C) (p : ProcessorFigures) where
  abbrev pub periodic_board : Tally → List (Row C)
  periodic_board t = periodic_rows k p t.capacity (standing 1 t.tasks)

  abbrev pub sporadic_board : Tally → List (Row C)
  sporadic_board t = sporadic_rows k p t.clock (standing 1 t.tasks)

abbrev pub top_offered : ProcessorFigures → FiguresOfTask → Bool
top_offered p task = nat_le (busy_time task.cycles (top_speed p.levels)) (most_time task.due)

abbrev pub has_period : Due → Bool
has_period (Period period) = period_fits period
has_period (Deadline deadline) = false

abbrev pub has_deadline : Due → Bool
has_deadline (Period period) = false
has_deadline (Deadline deadline) = true

abbrev pub periodic_task : ProcessorFigures → FiguresOfTask → Bool
periodic_task p task = has_period task.due && (figures_fit p task && top_offered p task)

abbrev pub sporadic_task : ProcessorFigures → FiguresOfTask → Bool
sporadic_task p task = has_deadline task.due && (figures_fit p task && top_offered p task)

abbrev pub on_task : (FiguresOfTask → Bool) → Option FiguresOfTask → Bool
on_task test None = true
on_task test (Some task) = test task

abbrev pub each_task : (FiguresOfTask → Bool) → List (Option FiguresOfTask) → Bool
each_task test ts = list_all (on_task test) ts

abbrev pub periodic_tasks : ProcessorFigures → List (Option FiguresOfTask) → Bool
periodic_tasks p ts = each_task (periodic_task p) ts && nat_le (joint_period (standing 1 ts)) longest

abbrev pub sporadic_tasks : ProcessorFigures → List (Option FiguresOfTask) → Bool
sporadic_tasks p ts = each_task (sporadic_task p) ts

pub record Match (t u : Tally) : Type 0 where
  pub capacity : t.capacity ≡ u.capacity
  pub clock : t.clock ≡ u.clock
  pub tasks : Reordered t.tasks u.tasks
