-- A task by its figures, and which figures are admissible.
--   FiguresOfTask           cycles, access energy of a job in nJ, share of each device in thousandths, and when it is due
--   figures_fit p t         1 to 1,000,000,000 cycles, access of 0 to 1,000,000 nJ, one share of 0 to 1,000 for each device of p
--   period_in_range due     if it is a period, it is in range
--   due_fits clock due      the period is in range; a deadline is 1 to 60,000,000 µs after the clock
--   busy_time cycles mhz    the cycles at that speed, rounded up, in µs
--   top_speed ls            the speed of the last level
--   time_left clock due     the period, or the time to the deadline
--   quick_enough p clock t  at the top level the task is done in the time left
--   judged p port clock t   the task, or the first fault of its figures, with the port
--   fewer_cycles t cycles   the task with so many cycles less
--   served cycles t         the task with so many cycles less, if that is at least one cycle and leaves one
use Rattle.std.specs.Prelude.{ℕ, ◌+◌, ◌-◌, ◌/◌, Bool, true, cond, ◌&&◌, List, [], ◌∷◌, length, Some, None, Ok, Err, Option, Result, ◌==◌, nat_le, nat_lt}
use Rattle.std.specs.List.{list_all}
use Rattle.board.specs.declared.faults.Fault.{Fault}
use Rattle.board.specs.declared.faults.Fault.TheVariants.{BadFigure, BadTime, TooSlow}
use Rattle.board.specs.declared.dues.Due.{Due}
use Rattle.board.specs.declared.dues.Due.TheVariants.{Period, Deadline}
use Rattle.board.specs.declared.levels.Level.{Level}
use Rattle.board.specs.Processors.{ProcessorFigures, between}
use Rattle.board.specs.Periods.{period_fits, longest}

pub record FiguresOfTask : Type 0 where
  pub cycles : ℕ
  pub access : ℕ
  pub shares : List ℕ
  pub due : Due

abbrev pub shares_fit : ℕ → List ℕ → Bool
shares_fit devices shares = length shares == devices && list_all (λ s. nat_le s 1000) shares

abbrev pub figures_fit : ProcessorFigures → FiguresOfTask → Bool
figures_fit p t =
    between 1 1000000000 t.cycles && (nat_le t.access 1000000 && shares_fit (length p.standby) t.shares)

abbrev pub period_in_range : Due → Bool
period_in_range (Period p) = period_fits p
period_in_range (Deadline d) = true

abbrev pub due_fits : ℕ → Due → Bool
due_fits clock (Period p) = period_fits p
due_fits clock (Deadline d) = nat_lt clock d && nat_le d (clock + longest)

abbrev pub busy_time : ℕ → ℕ → ℕ
busy_time cycles mhz = (cycles + mhz - 1) / mhz

abbrev pub top_speed : List Level → ℕ
top_speed [] = 0
top_speed (l ∷ []) = l.mhz
top_speed (l ∷ (m ∷ ms)) = top_speed (m ∷ ms)

abbrev pub time_left : ℕ → Due → ℕ
time_left clock (Period p) = p
time_left clock (Deadline d) = d - clock

abbrev pub quick_enough : ProcessorFigures → ℕ → FiguresOfTask → Bool
quick_enough p clock t = nat_le (busy_time t.cycles (top_speed p.levels)) (time_left clock t.due)

abbrev pub judged : ProcessorFigures → ℕ → ℕ → FiguresOfTask → Result FiguresOfTask Fault
judged p port clock t =
    cond (figures_fit p t) (cond (due_fits clock t.due) (cond (quick_enough p clock t) (Ok t) (Err (TooSlow port))) (Err (BadTime port))) (Err (BadFigure port))

abbrev pub fewer_cycles : FiguresOfTask → ℕ → FiguresOfTask
fewer_cycles t cycles = record { cycles = t.cycles - cycles; access = t.access; shares = t.shares; due = t.due }

abbrev pub served : ℕ → FiguresOfTask → Option FiguresOfTask
served cycles t = cond (nat_le 1 cycles && nat_lt cycles t.cycles) (Some (fewer_cycles t cycles)) None
