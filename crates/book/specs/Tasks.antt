-- Tasks as a book holds them.
--   task_of c a ss due     a task by the figures that a caller names
--   figures_of ts      the figures of the task of each port, or none
--   task_at_port ts port   the task of a port, if it is one and has one
--   free_place ts port     the place of a port that has no task; taken_place: of one that has a task
--   rest_after o port cycles   what is left of a task when so many cycles are taken off, or the refusal with the port
--   rest_view r            the figures of such an answer
--   each_period ts     each task that stands has a period in range
--   if_short h         the hyperperiod, unless it passes 60,000,000 µs
--   joined_with h o    the hyperperiod h with the period of one port more, if it has a task; none if it passes 60,000,000 µs
use Rattle.std.specs.Prelude.{ℕ, ◌-◌, Bool, cond, List, [], ◌∷◌, map, Some, None, Ok, Err, Option, Result, nat_le, slice_index_or}
use Rattle.std.specs.Option.{option_map}
use Rattle.board.specs.declared.dues.Due.{Due}
use Rattle.board.specs.declared.faults.Fault.{Fault}
use Rattle.board.specs.declared.faults.Fault.TheVariants.{BadFigure}
use Rattle.board.specs.declared.tasks.Task.{Task}
use Rattle.board.specs.Processors.{between}
use Rattle.board.specs.Periods.{hyperperiod_with, longest}
use Rattle.board.specs.Tasks.{FiguresOfTask}
use Rattle.board.specs.Views.{task_figures}
use Rattle.plans.specs.Boards.{due_time}
use Rattle.tally.specs.Refusals.{remaining, first, a_port, no_such_port, port_taken, port_free}
use Rattle.tally.specs.Steps.{served}
use Rattle.tally.specs.Boards.{has_period, each_task}

abbrev pub task_of : ℕ → ℕ → List ℕ → Due → FiguresOfTask
task_of cycles access shares due = record { cycles = cycles; access = access; shares = shares; due = due }

abbrev pub figures_of : List (Option Task) → List (Option FiguresOfTask)
figures_of ts = map (option_map task_figures) ts

abbrev pub task_at_port : List (Option Task) → ℕ → Option Task
task_at_port ts port = cond (a_port port) (slice_index_or ts (port - 1) None) None

-- the place, unless one of the lines applies
abbrev pub place_unless : ℕ → Option Fault → Result ℕ Fault
place_unless place None = Ok place
place_unless place (Some fault) = Err fault

abbrev pub free_place : List (Option Task) → ℕ → Result ℕ Fault
free_place ts port = place_unless (port - 1) (first (no_such_port port ∷ port_taken ts port ∷ []))

abbrev pub taken_place : List (Option Task) → ℕ → Result ℕ Fault
taken_place ts port = place_unless (port - 1) (first (no_such_port port ∷ port_free ts port ∷ []))

abbrev pub rest_view : Result (Option Task) Fault → Result (Option FiguresOfTask) Fault
rest_view (Ok o) = Ok (option_map task_figures o)
rest_view (Err fault) = Err fault

abbrev pub rest_after : Option Task → ℕ → ℕ → Result (Option FiguresOfTask) Fault
rest_after o port cycles = let t = option_map task_figures o in cond (between 1 (remaining t) cycles) (Ok (served cycles t)) (Err (BadFigure port))

abbrev pub each_period : List (Option FiguresOfTask) → Bool
each_period ts = each_task (λ t. has_period t.due) ts

abbrev pub if_short : ℕ → Option ℕ
if_short h = cond (nat_le h longest) (Some h) None

abbrev pub joined_with : ℕ → Option FiguresOfTask → Option ℕ
joined_with h None = Some h
joined_with h (Some task) = hyperperiod_with h (due_time task.due)
