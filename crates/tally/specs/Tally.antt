-- What stands in a book, and the calls that a book takes.
--   Tally                 capacity in thousandths, clock in µs, and for each of the ports 1 to 48 a task or none
--   new_tally             the tally of a new book
--   task_at t port        the task at the port, or none
--   put t port task       the tally with this task, or none, at the port
--   Call                  a call, with its arguments: those of the periodic book, whose tasks have a period, and those of the sporadic book, whose tasks have a deadline
use Rattle.std.specs.Prelude.{ℕ, ◌-◌, List, replicate, None, Option, slice_index_or, slice_set}
use Rattle.board.specs.Tasks.{FiguresOfTask}

pub record Tally : Type 0 where
  pub capacity : ℕ
  pub clock : ℕ
  pub tasks : List (Option FiguresOfTask)

abbrev pub new_tally : Tally
new_tally = record { capacity = 1000; clock = 0; tasks = replicate 48 None }

abbrev pub task_at : Tally → ℕ → Option FiguresOfTask
task_at t port = slice_index_or t.tasks (port - 1) None

abbrev pub put : Tally → ℕ → Option FiguresOfTask → Tally
put t port task = record { capacity = t.capacity; clock = t.clock; tasks = slice_set t.tasks (port - 1) task }

pub data Call : Type 0 where
  -- port and task
  admit : ℕ → FiguresOfTask → Call
  -- port
  retire : ℕ → Call
  -- port and cycles
  serve : ℕ → ℕ → Call
  -- capacity in thousandths
  set_capacity : ℕ → Call
  trial : ℕ → Call
  -- clock in µs
  set_clock : ℕ → Call
  plan : Call
