-- What calls make of a tally.
--   served cycles task    what is left of a task: so many cycles fewer, and none once it has none left
--   changed t call        the tally after a call that is not declined
--   step p t call         the tally after a call on a processor p: as it was if the call is declined
--   life p calls          the tally after all the calls, from a new book on
use Rattle.std.specs.Prelude.{ℕ, cond, List, Some, None, fold, Option, nat_lt}
use Rattle.board.specs.declared.faults.Fault.{Fault}
use Rattle.board.specs.Processors.{ProcessorFigures}
use Rattle.board.specs.Tasks.{FiguresOfTask, fewer_cycles}
use Rattle.tally.specs.Tally.{Tally, new_tally, task_at, put, Call, admit, retire, serve, set_capacity, trial, set_clock, plan}
use Rattle.tally.specs.Refusals.{refused}

abbrev pub served : ℕ → Option FiguresOfTask → Option FiguresOfTask
served cycles None = None
served cycles (Some task) = cond (nat_lt cycles task.cycles) (Some (fewer_cycles task cycles)) None

abbrev pub changed : Tally → Call → Tally
changed t (admit port task) = put t port (Some task)
changed t (retire port) = put t port None
changed t (serve port cycles) = put t port (served cycles (task_at t port))
changed t (set_capacity capacity) = record { capacity = capacity; clock = t.clock; tasks = t.tasks }
changed t (set_clock clock) = record { capacity = t.capacity; clock = clock; tasks = t.tasks }
changed t (trial capacity) = t
changed t plan = t

abbrev pub unless_refused : Option Fault → Tally → Tally → Tally
unless_refused None old new = new
unless_refused (Some fault) old new = old

abbrev pub step : ProcessorFigures → Tally → Call → Tally
step p t call = unless_refused (refused p t call) t (changed t call)

abbrev pub life : ProcessorFigures → List Call → Tally
life p calls = fold (step p) new_tally calls
