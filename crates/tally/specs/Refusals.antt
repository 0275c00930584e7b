-- When a call is declined, read on the tally: one table for the calls of both books.
--   Line                  a line of the table: whether it applies, and the fault that it answers
--   first lines           the fault of the first line that applies
--   a_port port           the port is one of 1 to 48
--   no_such_port port     22; port_taken ts port: 23; port_free ts port: 24, where ts has something or nothing for each port
--   remaining task        the cycles that a task has left, 0 where there is none
--   long_period ts due    the hyperperiod of periodic tasks would pass 60,000,000 µs
--   lines p t call        the lines for the call, in the order of their numbers
--   refused p t call      the fault that the call is declined with, on a processor p, if it is declined
--   answer p t call       the answer of a call that plans nothing
use Rattle.std.specs.Prelude.{ℕ, ◌-◌, Bool, false, cond, not, List, [], ◌∷◌, is_some, Some, None, Ok, Err, Option, Result, nat_lt, slice_index_or}
use Rattle.board.specs.declared.dues.Due.{Due}
use Rattle.board.specs.declared.dues.Due.TheVariants.{Period, Deadline}
use Rattle.board.specs.declared.faults.Fault.{Fault}
use Rattle.board.specs.declared.faults.Fault.TheVariants.{NoSuchPort, PortTaken, PortFree, BadFigure, BadTime, TooSlow, LongHyperperiod, BadSetting}
use Rattle.board.specs.Processors.{ProcessorFigures, between}
use Rattle.board.specs.Periods.{longest}
use Rattle.board.specs.Tasks.{FiguresOfTask, figures_fit, due_fits, quick_enough}
use Rattle.plans.specs.Boards.{standing, joint_period}
use Rattle.tally.specs.Tally.{Tally, task_at, put, Call, admit, retire, serve, set_capacity, trial, set_clock, plan}

pub record Line : Type 0 where
  pub applies : Bool
  pub fault : Fault

abbrev when : Bool → Fault → Line
when applies fault = record { applies = applies; fault = fault }

abbrev pub first : List Line → Option Fault
first [] = None
first (line ∷ lines) = cond line.applies (Some line.fault) (first lines)

abbrev pub a_port : ℕ → Bool
a_port port = between 1 48 port

abbrev pub no_such_port : ℕ → Line
no_such_port port = when (not (a_port port)) (NoSuchPort port)

abbrev pub port_taken : {X : Type 0} → List (Option X) → ℕ → Line
port_taken ts port = when (is_some (slice_index_or ts (port - 1) None)) (PortTaken port)

abbrev pub port_free : {X : Type 0} → List (Option X) → ℕ → Line
port_free ts port = when (not (is_some (slice_index_or ts (port - 1) None))) (PortFree port)

abbrev pub remaining : Option FiguresOfTask → ℕ
remaining None = 0
remaining (Some task) = task.cycles

-- a sporadic task is no part of a hyperperiod
abbrev pub long_period : List (Option FiguresOfTask) → Due → Bool
long_period ts (Period period) = nat_lt longest (joint_period (standing 1 ts))
long_period ts (Deadline deadline) = false

abbrev pub lines : ProcessorFigures → Tally → Call → List Line
lines p t (admit port task) =
    no_such_port port
    ∷ port_taken t.tasks port
    ∷ when (not (figures_fit p task)) (BadFigure port)
    ∷ when (not (due_fits t.clock task.due)) (BadTime port)
    ∷ when (not (quick_enough p t.clock task)) (TooSlow port)
    ∷ when (long_period (put t port (Some task)).tasks task.due) (LongHyperperiod port)
    ∷ []
lines p t (retire port) =
    no_such_port port
    ∷ port_free t.tasks port
    ∷ []
lines p t (serve port cycles) =
    no_such_port port
    ∷ port_free t.tasks port
    ∷ when (not (between 1 (remaining (task_at t port)) cycles)) (BadFigure port)
    ∷ []
lines p t (set_capacity capacity) = when (not (between 1 1000 capacity)) BadSetting ∷ []
lines p t (trial capacity) = when (not (between 1 1000 capacity)) BadSetting ∷ []
lines p t (set_clock clock) = when (not (between t.clock 1000000000000 clock)) BadSetting ∷ []
-- what a plan is declined for stands in the definition of planning
lines p t plan = []

abbrev pub refused : ProcessorFigures → Tally → Call → Option Fault
refused p t call = first (lines p t call)

abbrev pub answered : Option Fault → Result Unit Fault
answered None = Ok tt
answered (Some fault) = Err fault

abbrev pub answer : ProcessorFigures → Tally → Call → Result Unit Fault
answer p t call = answered (refused p t call)
