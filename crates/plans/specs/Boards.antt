-- The rows of a board, from its processor, its standing tasks and its capacity or clock.
--   Standing                       a port, and the task that stands there
--   standing port ts               the standing tasks by port, where ts has a task or none for each port from this one on
--   due_time due                   the period, or the deadline, in µs
--   offers k p t h                 the offers of a task, from the lowest level on: each offered level with its load and the price of its measure
--   row k p h limit s              the row of a standing task under a hyperperiod
--   joint_period ss                the hyperperiod of the standing tasks in µs, 1 where none stands
--   periodic_limit h capacity      the hyperperiod times the capacity in thousandths, rounded down to whole µs
--   sporadic_limit deadline clock  the deadline less the clock, 0 once that is reached
--   sooner s t                     s has the earlier deadline, or the same one and the lower port
--   by_deadline ss                 the standing tasks by deadline and then port
--   periodic_rows k p capacity ss  the rows of periodic tasks: by port, all with the periodic limit
--   sporadic_rows k p clock ss     the rows of sporadic tasks: by deadline and then port, each with its sporadic limit
use Rattle.std.specs.Prelude.{ℕ, ◌+◌, ◌-◌, ◌*◌, ◌/◌, Bool, cond, ◌&&◌, ◌||◌, List, [], ◌∷◌, map, length, Some, None, Option, ◌==◌, nat_le, nat_lt}
use Rattle.std.specs.List.{range_with_len, flat_map}
use Rattle.board.specs.declared.dues.Due.{Due}
use Rattle.board.specs.declared.dues.Due.TheVariants.{Period, Deadline}
use Rattle.board.specs.declared.measures.Measure.{Measure}
use Rattle.board.specs.Processors.{ProcessorFigures}
use Rattle.board.specs.Tasks.{FiguresOfTask}
use Rattle.board.specs.Periods.{hyperperiod}
use Rattle.board.specs.Measures.{offer}
use Rattle.cost.specs.Kinds.{Meaning}
use Rattle.plans.specs.Choices.{Offer, Row}

pub record Standing : Type 0 where
  pub port : ℕ
  pub task : FiguresOfTask

abbrev pub standing : ℕ → List (Option FiguresOfTask) → List Standing
standing port [] = []
standing port (None ∷ ts) = standing (port + 1) ts
standing port (Some t ∷ ts) = record { port = port; task = t } ∷ standing (port + 1) ts

abbrev pub due_time : Due → ℕ
due_time (Period p) = p
due_time (Deadline d) = d

abbrev pub due_of : Standing → ℕ
due_of s = due_time s.task.due

abbrev pub joint_period : List Standing → ℕ
joint_period ss = hyperperiod (map due_of ss)

abbrev pub periodic_limit : ℕ → ℕ → ℕ
periodic_limit h capacity = h * capacity / 1000

abbrev pub sporadic_limit : ℕ → ℕ → ℕ
sporadic_limit deadline clock = deadline - clock

abbrev pub sooner : Standing → Standing → Bool
sooner s t = nat_lt (due_of s) (due_of t) || (due_of s == due_of t && nat_le s.port t.port)

abbrev pub put_by_deadline : Standing → List Standing → List Standing
put_by_deadline s [] = s ∷ []
put_by_deadline s (t ∷ ts) = cond (sooner s t) (s ∷ t ∷ ts) (t ∷ put_by_deadline s ts)

abbrev pub by_deadline : List Standing → List Standing
by_deadline [] = []
by_deadline (s ∷ ss) = put_by_deadline s (by_deadline ss)

-- a level that is not offered gives no offer
abbrev pub priced : {C : Type 0} → Meaning C → ℕ → Option Measure → List (Offer C)
priced k level None = []
priced k level (Some m) = record { level = level; load = m.load; entry = k.worth m } ∷ []

module _ {C : Type 0} (k : Meaning C) (p : ProcessorFigures) where
  abbrev pub offers : FiguresOfTask → ℕ → List (Offer C)
  offers t h = flat_map (λ level. priced k level (offer p t h level)) (range_with_len 0 (length p.levels))

  abbrev pub row : ℕ → ℕ → Standing → Row C
  row h limit s = record { port = s.port; limit = limit; offers = offers s.task h }

  abbrev pub periodic_rows : ℕ → List Standing → List (Row C)
  periodic_rows capacity ss = let h = joint_period ss in map (λ s. row h (periodic_limit h capacity) s) ss

  -- a sporadic task has one job, whatever the hyperperiod
  abbrev pub sporadic_rows : ℕ → List Standing → List (Row C)
  sporadic_rows clock ss = map (λ s. row 1 (sporadic_limit (due_of s) clock) s) (by_deadline ss)
