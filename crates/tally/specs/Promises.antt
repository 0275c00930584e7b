-- What is promised of every plan, in terms of choices, limits, cost and load.
--   Told rows c levels     the levels buffer tells the choice c: at a row's port its level, and 255 at a port that no row has
--   Given k rows f levels  a plan with the figures f: the levels are a choice that keeps every limit, with that cost and load;
--                          any other such choice costs at least as much, and at equal cost has at least that load
--   Promised k rows able r levels   if the answer r is a plan, it is such a plan; and where planning is able to,
--                          r is "none fits" exactly if no choice keeps every limit
--   Agree r s              if both answers are plans, they have one cost and one load
use Rattle.std.specs.Prelude.{◌≡◌, ℕ, ◌-◌, ◌≤◌, List, Ok, Result, ◌≢◌, slice_index}
use Rattle.board.specs.declared.faults.Fault.{Fault}
use Rattle.cost.specs.Kinds.{Meaning}
use Rattle.plans.specs.declared.figures.Figures.{Figures}
use Rattle.plans.specs.Choices.{In, Row, Taken, load}
use Rattle.plans.specs.Fronts.{cost}
use Rattle.plans.specs.Promises.{Best, NoChoice, number_of}

pub record Told {C : Type 0} (rows : List (Row C)) (c : List (Taken C)) (levels : List ℕ) : Type 0 where
  pub level : (t : Taken C) → In t c → slice_index levels (t.row.port - 1) ≡ t.offer.level
  pub no_task : (port : ℕ) → 1 ≤ port → port ≤ 48 → ((r : Row C) → In r rows → r.port ≢ port) → slice_index levels (port - 1) ≡ 255

pub record Given {C : Type 0} (k : Meaning C) (rows : List (Row C)) (f : Figures C) (levels : List ℕ) : Type 0 where
  pub choice : List (Taken C)
  pub told : Told rows choice levels
  pub best : Best k rows choice
  pub costs : f.cost ≡ cost k choice
  pub loads : f.load ≡ load choice

pub record Promised {C : Type 0} (k : Meaning C) (rows : List (Row C)) (able : Type 0) (r : Result (Figures C) Fault) (levels : List ℕ) : Type 0 where
  pub given : (f : Figures C) → r ≡ Ok f → Given k rows f levels
  pub none_fits : able → number_of r ≡ 32 → NoChoice rows
  pub only_then : able → NoChoice rows → number_of r ≡ 32

abbrev pub Agree : {C : Type 0} → Result (Figures C) Fault → Result (Figures C) Fault → Type 0
Agree {C} r s = (f g : Figures C) → r ≡ Ok f → s ≡ Ok g → (f.cost ≡ g.cost) × (f.load ≡ g.load)
