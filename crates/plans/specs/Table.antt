-- The table of boards with known plans, and the test that the definitions give them.
--   Kind                the kinds of cost of the table
--   Setting             a capacity in thousandths for periodic tasks, or a clock in µs for sporadic ones
--   Expected            the figures, levels (255: no task) and places of a plan, with costs as lists of numbers; or number and place of a refusal
--   Board               kind, setting, processor, the task of each port from port 1 on, length of the list and of the levels buffer, and what is expected
--   rows_of k b         the rows of the board at the kind's prices
--   blank none          what each place of the list holds before the call
--   idle                what each byte of the levels buffer holds before the call
--   agrees k numbers b  answer, list and levels buffer after the call are the expected ones
--   boards_agree bs     so on every board of the table
-- The expected figures, levels and places were counted outside these definitions, by going through all choices.
use Rattle.std.specs.Prelude.{ℕ, ◌-◌, Bool, true, false, cond, ◌&&◌, List, [], ◌∷◌, ◌++◌, map, length, replicate, Some, None, Ok, Err, Option, Result, ◌==◌, nat_eq}
use Rattle.board.specs.declared.dues.Due.{Due}
use Rattle.board.specs.declared.dues.Due.TheVariants.{Period, Deadline}
use Rattle.board.specs.declared.faults.Fault.{Fault}
use Rattle.board.specs.declared.levels.Level.{Level}
use Rattle.board.specs.Faults.{numbered}
use Rattle.board.specs.Processors.{ProcessorFigures}
use Rattle.board.specs.Tasks.{FiguresOfTask}
use Rattle.cost.specs.Kinds.{Meaning}
use Rattle.cost.specs.Models.{energy, peak, paired}
use Rattle.plans.specs.declared.states.State.{State}
use Rattle.plans.specs.declared.figures.Figures.{Figures}
use Rattle.plans.specs.Choices.{Row}
use Rattle.plans.specs.Plans.{planned, list_after, levels_after}
use Rattle.plans.specs.Boards.{Standing, standing, periodic_rows, sporadic_rows}

pub data Kind : Type 0 where
  by_energy : Kind
  by_peak : Kind
  by_both : Kind

pub data Setting : Type 0 where
  capacity : ℕ → Setting
  clock : ℕ → Setting

pub data Expected : Type 0 where
  given : Figures (List ℕ) → List ℕ → List (State (List ℕ)) → Expected
  refused : ℕ → ℕ → Expected

pub record Board : Type 0 where
  pub kind : Kind
  pub setting : Setting
  pub processor : ProcessorFigures
  pub tasks : List (Option FiguresOfTask)
  pub room : ℕ
  pub buffer : ℕ
  pub expected : Expected

-- two lists are as long, and the test holds at each place
abbrev pub alike : {X : Type 0} → (X → X → Bool) → List X → List X → Bool
alike test [] [] = true
alike test [] (y ∷ ys) = false
alike test (x ∷ xs) [] = false
alike test (x ∷ xs) (y ∷ ys) = test x y && alike test xs ys

abbrev pub same_place : State (List ℕ) → State (List ℕ) → Bool
same_place s t = s.load == t.load && (alike nat_eq s.cost t.cost && (s.level == t.level && s.position == t.position))

abbrev pub same_figures : Figures (List ℕ) → Figures (List ℕ) → Bool
same_figures f g = alike nat_eq f.cost g.cost && (f.load == g.load && (f.limit == g.limit && f.states == g.states))

abbrev pub same_answer : Result (Figures (List ℕ)) Fault → Expected → Bool
same_answer (Ok f) (given g levels places) = same_figures f g
same_answer (Ok f) (refused number place) = false
same_answer (Err e) (given g levels places) = false
same_answer (Err e) (refused number place) = (numbered e).number == number && (numbered e).place == place

-- what is expected of a list of n places or bytes that all held x before: the new ones, and the rest as it was
abbrev pub refilled : {X : Type 0} → ℕ → X → List X → List X
refilled n x new = new ++ replicate (n - length new) x

-- where the list is open, the test takes it for empty
abbrev pub list_due : ℕ → State (List ℕ) → Expected → List (State (List ℕ))
list_due room x (given f levels places) = refilled room x places
list_due room x (refused number place) = cond (number == 33) [] (replicate room x)

abbrev pub levels_due : ℕ → ℕ → Expected → List ℕ
levels_due buffer x (given f levels places) = refilled buffer x (refilled 48 255 levels)
levels_due buffer x (refused number place) = replicate buffer x

abbrev pub blank : {C : Type 0} → C → State C
blank none = record { load = 7; cost = none; level = 9; position = 77 }

abbrev pub idle : ℕ
idle = 99

module _ {C : Type 0} (k : Meaning C) (numbers : C → List ℕ) where
  abbrev pub rows_at : Setting → ProcessorFigures → List Standing → List (Row C)
  rows_at (capacity c) p ss = periodic_rows k p c ss
  rows_at (clock t) p ss = sporadic_rows k p t ss

  abbrev pub rows_of : Board → List (Row C)
  rows_of b = rows_at b.setting b.processor (standing 1 b.tasks)

  abbrev pub place_in_numbers : State C → State (List ℕ)
  place_in_numbers s = record { load = s.load; cost = numbers s.cost; level = s.level; position = s.position }

  abbrev pub in_numbers : Result (Figures C) Fault → Result (Figures (List ℕ)) Fault
  in_numbers (Ok f) = Ok (record { cost = numbers f.cost; load = f.load; limit = f.limit; states = f.states })
  in_numbers (Err e) = Err e

  abbrev pub agrees : Board → Bool
  agrees b =
      let rows = rows_of b in
      let answer = planned k b.room b.buffer rows in
      let list = replicate b.room (blank k.none) in
      same_answer (in_numbers answer) b.expected
      && (alike same_place (map place_in_numbers (list_after k rows answer list [])) (list_due b.room (blank (numbers k.none)) b.expected)
      && alike nat_eq (levels_after k rows answer (replicate b.buffer idle)) (levels_due b.buffer idle b.expected))

abbrev pub board_agrees : Kind → Board → Bool
board_agrees by_energy b = agrees energy (λ c. c.picojoules ∷ []) b
board_agrees by_peak b = agrees peak (λ c. c.microwatts ∷ []) b
board_agrees by_both b = agrees (paired energy peak) (λ c. c.first.picojoules ∷ c.second.microwatts ∷ []) b

abbrev pub boards_agree : List Board → Bool
boards_agree [] = true
boards_agree (b ∷ bs) = board_agrees b.kind b && boards_agree bs

abbrev pub board : ℕ → ℕ → Kind → Setting → ProcessorFigures → List (Option FiguresOfTask) → Expected → Board
board room buffer kind setting processor tasks expected =
    record { kind = kind; setting = setting; processor = processor; tasks = tasks; room = room; buffer = buffer; expected = expected }

-- with room for 12 states and two bytes more than there are ports
abbrev pub ample : Kind → Setting → ProcessorFigures → List (Option FiguresOfTask) → Expected → Board
ample = board 12 50

-- cycles, access energy in nJ, shares in thousandths, and when it is due
abbrev pub task : ℕ → ℕ → List ℕ → Due → Option FiguresOfTask
task cycles access shares due = Some (record { cycles = cycles; access = access; shares = shares; due = due })

abbrev pub cycles_40000 : Due → Option FiguresOfTask
cycles_40000 due = task 40000 0 [] due

abbrev pub cycles_30000 : Due → Option FiguresOfTask
cycles_30000 due = task 30000 0 [] due

-- MHz and mW
abbrev pub level : ℕ → ℕ → Level
level mhz mw = record { mhz = mhz; mw = mw }

abbrev pub two_levels : ProcessorFigures
two_levels = record { levels = level 100 100 ∷ level 200 300 ∷ []; standby = [] }

abbrev pub three_levels : ProcessorFigures
three_levels = record { levels = level 100 100 ∷ level 200 300 ∷ level 400 900 ∷ []; standby = [] }

abbrev pub one_device : ProcessorFigures
one_device = record { levels = level 100 100 ∷ level 200 300 ∷ []; standby = 40 ∷ [] }

-- cost, load, limit and states
abbrev pub answer : ℕ → ℕ → ℕ → ℕ → Figures (List ℕ)
answer cost load limit states = record { cost = cost ∷ []; load = load; limit = limit; states = states }

abbrev pub answer_both : ℕ → ℕ → ℕ → ℕ → ℕ → Figures (List ℕ)
answer_both energy draw load limit states = record { cost = energy ∷ draw ∷ []; load = load; limit = limit; states = states }

-- load, cost, level and position
abbrev pub at : ℕ → ℕ → ℕ → ℕ → State (List ℕ)
at load cost level position = record { load = load; cost = cost ∷ []; level = level; position = position }

abbrev pub at_both : ℕ → ℕ → ℕ → ℕ → ℕ → State (List ℕ)
at_both load energy draw level position = record { load = load; cost = energy ∷ draw ∷ []; level = level; position = position }

-- Each board: kind, setting, processor, and the tasks from port 1 on. Then what is due: cost, load, limit and states; the levels from port 1 on;
-- the places, each by load, cost, level and position. Costs are in pJ or µW, loads and limits in µs.
abbrev pub boards : List Board
boards =
    -- 1: capacity 1,000
    ample by_energy (capacity 1000) two_levels (cycles_40000 (Period 1000) ∷ cycles_30000 (Period 500) ∷ [])
    (given (answer 100000000 1000 1000 6) (0 ∷ 0 ∷ [])
    (at 400 40000000 0 0 ∷ at 200 60000000 1 0 ∷ at 1000 100000000 0 1 ∷ at 800 120000000 0 2 ∷ at 700 130000000 1 1 ∷ at 500 150000000 1 2 ∷ []))
    -- 2: 900
    ∷ ample by_energy (capacity 900) two_levels (cycles_40000 (Period 1000) ∷ cycles_30000 (Period 500) ∷ [])
    (given (answer 120000000 800 900 5) (1 ∷ 0 ∷ [])
    (at 400 40000000 0 0 ∷ at 200 60000000 1 0 ∷ at 800 120000000 0 2 ∷ at 700 130000000 1 1 ∷ at 500 150000000 1 2 ∷ []))
    -- 3: 500
    ∷ ample by_energy (capacity 500) two_levels (cycles_40000 (Period 1000) ∷ cycles_30000 (Period 500) ∷ [])
    (given (answer 150000000 500 500 2) (1 ∷ 1 ∷ [])
    (at 200 60000000 1 0 ∷ at 500 150000000 1 1 ∷ []))
    -- 4: 499
    ∷ ample by_energy (capacity 499) two_levels (cycles_40000 (Period 1000) ∷ cycles_30000 (Period 500) ∷ [])
    (refused 32 2)
    -- 5: by the peak, 1,000
    ∷ ample by_peak (capacity 1000) two_levels (cycles_40000 (Period 1000) ∷ cycles_30000 (Period 500) ∷ [])
    (given (answer 100000 1000 1000 4) (0 ∷ 0 ∷ [])
    (at 400 100000 0 0 ∷ at 200 300000 1 0 ∷ at 1000 100000 0 1 ∷ at 500 300000 1 2 ∷ []))
    -- 6: by the peak, 900
    ∷ ample by_peak (capacity 900) two_levels (cycles_40000 (Period 1000) ∷ cycles_30000 (Period 500) ∷ [])
    (given (answer 300000 500 900 3) (1 ∷ 1 ∷ [])
    (at 400 100000 0 0 ∷ at 200 300000 1 0 ∷ at 500 300000 1 2 ∷ []))
    -- 7: by both, 900
    ∷ ample by_both (capacity 900) two_levels (cycles_40000 (Period 1000) ∷ cycles_30000 (Period 500) ∷ [])
    (given (answer_both 120000000 300000 800 900 5) (1 ∷ 0 ∷ [])
    (at_both 400 40000000 100000 0 0 ∷ at_both 200 60000000 300000 1 0 ∷ at_both 800 120000000 300000 0 2 ∷ at_both 700 130000000 300000 1 1 ∷ at_both 500 150000000 300000 1 2 ∷ []))
    -- 8: one task twice, 700; two choices make one pair
    ∷ ample by_energy (capacity 700) two_levels (cycles_40000 (Period 1000) ∷ cycles_40000 (Period 1000) ∷ [])
    (given (answer 100000000 600 700 4) (1 ∷ 0 ∷ [])
    (at 400 40000000 0 0 ∷ at 200 60000000 1 0 ∷ at 600 100000000 0 2 ∷ at 400 120000000 1 2 ∷ []))
    -- 9: sporadic, clock 0
    ∷ ample by_energy (clock 0) two_levels (cycles_40000 (Deadline 400) ∷ cycles_30000 (Deadline 550) ∷ [])
    (given (answer 85000000 550 550 5) (0 ∷ 1 ∷ [])
    (at 400 40000000 0 0 ∷ at 200 60000000 1 0 ∷ at 550 85000000 1 1 ∷ at 500 90000000 0 2 ∷ at 350 105000000 1 2 ∷ []))
    -- 10: clock 1
    ∷ ample by_energy (clock 1) two_levels (cycles_40000 (Deadline 400) ∷ cycles_30000 (Deadline 550) ∷ [])
    (given (answer 90000000 500 549 3) (1 ∷ 0 ∷ [])
    (at 200 60000000 1 0 ∷ at 500 90000000 0 1 ∷ at 350 105000000 1 1 ∷ []))
    -- 11: clock 200
    ∷ ample by_energy (clock 200) two_levels (cycles_40000 (Deadline 400) ∷ cycles_30000 (Deadline 550) ∷ [])
    (given (answer 105000000 350 350 2) (1 ∷ 1 ∷ [])
    (at 200 60000000 1 0 ∷ at 350 105000000 1 1 ∷ []))
    -- 12: clock 201
    ∷ ample by_energy (clock 201) two_levels (cycles_40000 (Deadline 400) ∷ cycles_30000 (Deadline 550) ∷ [])
    (refused 32 1)
    -- 13: no tasks
    ∷ ample by_energy (capacity 1000) two_levels []
    (given (answer 0 0 0 0) [] [])
    -- 14: the first with a list of 5 places
    ∷ board 5 50 by_energy (capacity 1000) two_levels (cycles_40000 (Period 1000) ∷ cycles_30000 (Period 500) ∷ [])
    (refused 33 2)
    -- the first limit binds, though the last one would be kept
    ∷ ample by_energy (clock 0) two_levels (cycles_40000 (Deadline 399) ∷ cycles_30000 (Deadline 700) ∷ [])
    (given (answer 90000000 500 700 3) (1 ∷ 0 ∷ [])
    (at 200 60000000 1 0 ∷ at 500 90000000 0 1 ∷ at 350 105000000 1 1 ∷ []))
    -- two levels make one pair, since the shorter time is rounded up and the draw of the first row is the larger one
    ∷ board 12 48 by_peak (capacity 1000) two_levels (cycles_40000 (Period 1000) ∷ task 100 0 [] (Period 1000) ∷ [])
    (given (answer 100000 401 1000 4) (0 ∷ 0 ∷ [])
    (at 400 100000 0 0 ∷ at 200 300000 1 0 ∷ at 401 100000 0 1 ∷ at 201 300000 0 2 ∷ []))
    -- three rows, and a port with no task between them
    ∷ ample by_energy (capacity 1000) two_levels (cycles_40000 (Period 1000) ∷ cycles_30000 (Period 500) ∷ None ∷ task 20000 0 [] (Period 1000) ∷ [])
    (given (answer 140000000 1000 1000 10) (1 ∷ 0 ∷ 255 ∷ 0 ∷ [])
    (at 400 40000000 0 0 ∷ at 200 60000000 1 0 ∷ at 800 120000000 0 2 ∷ at 700 130000000 1 1 ∷ at 500 150000000 1 2 ∷ at 1000 140000000 0 3 ∷ at 900 150000000 0 4 ∷ at 800 160000000 1 4 ∷ at 700 170000000 0 5 ∷ at 600 180000000 1 5 ∷ []))
    -- three levels by the peak: costs are equal, and loads are not
    ∷ ample by_peak (capacity 1000) three_levels (cycles_40000 (Period 1000) ∷ cycles_30000 (Period 500) ∷ [])
    (given (answer 100000 1000 1000 6) (0 ∷ 0 ∷ [])
    (at 400 100000 0 0 ∷ at 200 300000 1 0 ∷ at 100 900000 2 0 ∷ at 1000 100000 0 1 ∷ at 500 300000 1 2 ∷ at 250 900000 2 3 ∷ []))
    -- two choices of equal energy, of which the lighter one is the plan
    ∷ ample by_energy (capacity 700) one_device (task 30000 0 (0 ∷ []) (Period 1000) ∷ task 50000 0 (1000 ∷ []) (Period 1000) ∷ [])
    (given (answer 115000000 550 700 4) (0 ∷ 1 ∷ [])
    (at 300 30000000 0 0 ∷ at 150 45000000 1 0 ∷ at 550 115000000 1 1 ∷ at 400 130000000 1 2 ∷ []))
    -- the limit of 499.5 is rounded down
    ∷ board 2 48 by_energy (capacity 999) two_levels (task 50000 0 [] (Period 500) ∷ [])
    (given (answer 75000000 250 499 1) (1 ∷ [])
    (at 250 75000000 1 0 ∷ []))
    -- level 0 takes longer than the period of port 2; a device and access energies; port 1 has no task
    ∷ ample by_both (capacity 1000) one_device (None ∷ task 60000 7 (250 ∷ []) (Period 500) ∷ task 10000 3 (1000 ∷ []) (Period 1000) ∷ [])
    (given (answer_both 200017000 310000 700 1000 3) (255 ∷ 1 ∷ 0 ∷ [])
    (at_both 600 186014000 310000 1 0 ∷ at_both 700 200017000 310000 0 1 ∷ at_both 650 203017000 340000 1 1 ∷ []))
    -- the row of port 2 comes first, by its deadline
    ∷ ample by_energy (clock 0) two_levels (cycles_30000 (Deadline 550) ∷ cycles_40000 (Deadline 400) ∷ [])
    (given (answer 85000000 550 550 5) (1 ∷ 0 ∷ [])
    (at 400 40000000 0 0 ∷ at 200 60000000 1 0 ∷ at 550 85000000 1 1 ∷ at 500 90000000 0 2 ∷ at 350 105000000 1 2 ∷ []))
    -- at one deadline the lower port comes first
    ∷ ample by_energy (clock 100) two_levels (cycles_30000 (Deadline 600) ∷ cycles_40000 (Deadline 600) ∷ [])
    (given (answer 90000000 500 500 4) (0 ∷ 1 ∷ [])
    (at 300 30000000 0 0 ∷ at 150 45000000 1 0 ∷ at 500 90000000 1 1 ∷ at 350 105000000 1 2 ∷ []))
    -- both deadlines are past
    ∷ ample by_energy (clock 600) two_levels (cycles_30000 (Deadline 550) ∷ cycles_40000 (Deadline 400) ∷ [])
    (refused 32 2)
    -- a levels buffer of 47 bytes comes before all else
    ∷ board 0 47 by_energy (capacity 499) two_levels (cycles_40000 (Period 1000) ∷ cycles_30000 (Period 500) ∷ [])
    (refused 31 0)
    -- no list at all, and still none fits
    ∷ board 0 48 by_energy (capacity 499) two_levels (cycles_40000 (Period 1000) ∷ cycles_30000 (Period 500) ∷ [])
    (refused 32 2)
    -- the first row, of port 2, does not fit
    ∷ board 1 48 by_energy (clock 0) two_levels (cycles_30000 (Deadline 550) ∷ cycles_40000 (Deadline 400) ∷ [])
    (refused 33 2)
    -- the last row, of port 1, does not fit
    ∷ board 4 48 by_energy (clock 0) two_levels (cycles_30000 (Deadline 550) ∷ cycles_40000 (Deadline 400) ∷ [])
    (refused 33 1)
    -- all fronts just fit
    ∷ board 5 48 by_energy (clock 0) two_levels (cycles_30000 (Deadline 550) ∷ cycles_40000 (Deadline 400) ∷ [])
    (given (answer 85000000 550 550 5) (1 ∷ 0 ∷ [])
    (at 400 40000000 0 0 ∷ at 200 60000000 1 0 ∷ at 550 85000000 1 1 ∷ at 500 90000000 0 2 ∷ at 350 105000000 1 2 ∷ []))
    ∷ []
