-- The measure of a task at a level, and which measures there are.
--   standby_sum ws ss     the sum over all devices of standby power times share, in µW
--   draw p t l            1,000 times the power of the level, and the standby sum, in µW
--   most_time due         a level is offered if the busy time is at most this
--   jobs h due            the hyperperiod over the period; one job for a sporadic task
--   measure p t h l       busy time, draw, jobs, load and energy (pJ) of the task at the level
--   offered t l           the level is offered to the task
--   offer p t h n         the measure at level n, if there is such a level and it is offered
--   counts_in h due       the period divides the hyperperiod
--   belongs p t h         t has one share for each device of p, and its period divides h
--   offer_if p t h n      the offer, if the task belongs
--   AtOfferedLevel m      some admissible task has the measure m at an offered level of some admissible processor
--   Offered m             there is such a task: what exactly the measures of offered levels are
use Rattle.std.specs.Prelude.{◌≡◌, ℕ, ◌+◌, ◌*◌, ◌/◌, ◌%◌, ◌≤◌, Bool, true, cond, ◌&&◌, ◌⊎◌, List, [], ◌∷◌, length, Some, None, Option, ◌==◌, nat_le}
use Rattle.std.specs.List.{list_all, slice_get}
use Rattle.board.specs.declared.dues.Due.{Due}
use Rattle.board.specs.declared.dues.Due.TheVariants.{Period, Deadline}
use Rattle.board.specs.declared.levels.Level.{Level}
use Rattle.board.specs.declared.measures.Measure.{Measure}
use Rattle.board.specs.Processors.{ProcessorFigures, processor_fits}
use Rattle.board.specs.Periods.{period_fits, hyperperiod, longest}
use Rattle.board.specs.Tasks.{FiguresOfTask, figures_fit, busy_time}

abbrev pub standby_sum : List ℕ → List ℕ → ℕ
standby_sum [] ss = 0
standby_sum (w ∷ ws) [] = 0
standby_sum (w ∷ ws) (s ∷ ss) = w * s + standby_sum ws ss

abbrev pub draw : ProcessorFigures → FiguresOfTask → Level → ℕ
draw p t l = 1000 * l.mw + standby_sum p.standby t.shares

abbrev pub most_time : Due → ℕ
most_time (Period p) = p
most_time (Deadline d) = longest

abbrev pub jobs : ℕ → Due → ℕ
jobs h (Period p) = h / p
jobs h (Deadline d) = 1

abbrev pub measure : ProcessorFigures → FiguresOfTask → ℕ → Level → Measure
measure p t h l =
    let time = busy_time t.cycles l.mhz in
    let runs = jobs h t.due in
    record { busy = time; draw = draw p t l; jobs = runs; load = runs * time; energy = runs * (draw p t l * time + 1000 * t.access) }

abbrev pub offered : FiguresOfTask → Level → Bool
offered t l = nat_le (busy_time t.cycles l.mhz) (most_time t.due)

abbrev pub offer_at : ProcessorFigures → FiguresOfTask → ℕ → Option Level → Option Measure
offer_at p t h None = None
offer_at p t h (Some l) = cond (offered t l) (Some (measure p t h l)) None

abbrev pub offer : ProcessorFigures → FiguresOfTask → ℕ → ℕ → Option Measure
offer p t h n = offer_at p t h (slice_get p.levels n)

abbrev pub counts_in : ℕ → Due → Bool
counts_in h (Period p) = h % p == 0
counts_in h (Deadline d) = true

abbrev pub belongs : ProcessorFigures → FiguresOfTask → ℕ → Bool
belongs p t h = length t.shares == length p.standby && counts_in h t.due

abbrev pub offer_if : ProcessorFigures → FiguresOfTask → ℕ → ℕ → Option Measure
offer_if p t h n = cond (belongs p t h) (offer p t h n) None

-- a number stands in the list
abbrev pub Among : ℕ → List ℕ → Type 0
Among n [] = ⊥
Among n (m ∷ ms) = (n ≡ m) ⊎ Among n ms

-- the due time of a periodic task is one of the periods in range
abbrev pub Own : Due → List ℕ → Type 0
Own (Period p) ps = Among p ps
Own (Deadline d) ps = Unit {0}

pub record AtOfferedLevel (m : Measure) : Type 0 where
  pub processor : ProcessorFigures
  pub task : FiguresOfTask
  pub level : Level
  pub number : ℕ
  pub periods : List ℕ
  pub processor_in_range : processor_fits processor ≡ true
  pub task_in_range : figures_fit processor task ≡ true
  pub few : length periods ≤ 48
  pub periods_in_range : list_all period_fits periods ≡ true
  pub own : Own task.due periods
  pub short : hyperperiod periods ≤ longest
  pub has_level : slice_get processor.levels number ≡ Some level
  pub in_time : offered task level ≡ true
  pub figures : m ≡ measure processor task (hyperperiod periods) level

abbrev pub Offered : Measure → Type 0
Offered m = ∥ AtOfferedLevel m ∥₁
