-- What the values of this crate stand for.
--   processor_figures p   a processor's figures; processor_view: those of an answer
--   named_figures t       a task's figures as a caller names them
--   task_figures t        a task's figures; task_view: those of an answer
use Rattle.std.specs.Prelude.{Ok, Err, Result}
use Rattle.shortlist.specs.Lists.{listed}
use Rattle.board.specs.declared.faults.Fault.{Fault}
use Rattle.board.specs.declared.processors.Processor.{Processor}
use Rattle.board.specs.declared.tasks.Task.{Task}
use Rattle.board.specs.declared.tasks.TaskFigures.{TaskFigures}
use Rattle.board.specs.Processors.{ProcessorFigures}
use Rattle.board.specs.Tasks.{FiguresOfTask}

abbrev pub processor_figures : Processor → ProcessorFigures
processor_figures p = record { levels = listed p.levels; standby = listed p.standby }

abbrev pub processor_view : Result Processor Fault → Result ProcessorFigures Fault
processor_view (Ok p) = Ok (processor_figures p)
processor_view (Err f) = Err f

abbrev pub task_figures : Task → FiguresOfTask
task_figures t = record { cycles = t.cycles; access = t.access; shares = listed t.shares; due = t.due }

abbrev pub task_view : Result Task Fault → Result FiguresOfTask Fault
task_view (Ok t) = Ok (task_figures t)
task_view (Err f) = Err f

abbrev pub named_figures : TaskFigures → FiguresOfTask
named_figures t = record { cycles = t.cycles; access = t.access; shares = t.shares.now; due = t.due }
