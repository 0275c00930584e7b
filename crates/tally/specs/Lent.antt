-- What is lent to a book for its plans, and what its calls leave of it.
--   Lent C                 a list of states and a levels buffer; `lent list levels` are these two
--   planned_in declined rows places bytes found left
--       what a plan of the rows leaves if it is made in the first `places` places of the list and the first `bytes` bytes of the buffer,
--       or in all of them where fewer are lent: that part as planning leaves it, and the rest as found. A plan that is `declined`
--       beforehand leaves all as found; after 33 the part of the list holds whatever was `left`
--   LentCall               a call, with the places of the list and the bytes of the buffer that it may use, if it is a plan or a trial
--   in_none call           a call that uses nothing of what is lent
--   lent_plan places bytes, lent_trial capacity places bytes    a plan, and a trial at this capacity, in so many places and bytes
--   left_by b call places bytes found left    what a call that may use so many places and bytes leaves, made of the book b
--   lent_after b call found left    what the call leaves, made of the book b: all as found, unless it is a plan or a trial
--   Leaves b calls found left       a book b that follows the calls leaves `left`: each call, made of the book that the calls before it
--       left, leaves exactly that of what those left. The list stays as long as it is
use Rattle.std.specs.Prelude.{◌≡◌, ℕ, List, [], ◌∷◌, ◌++◌, length, take, drop, None, Option}
use Rattle.board.specs.declared.faults.Fault.{Fault}
use Rattle.cost.specs.Kinds.{Meaning}
use Rattle.plans.specs.declared.states.State.{State}
use Rattle.plans.specs.Choices.{Row}
use Rattle.plans.specs.Plans.{planned, list_after, levels_after}
use Rattle.tally.specs.Tally.{Call, admit, retire, serve, set_capacity, set_clock, plan, trial}
use Rattle.tally.specs.Refusals.{refused}
use Rattle.tally.specs.Books.{BookFigures, after}
use Rattle.tally.specs.Plans.{at_capacity, unless_declined}

pub record Lent (C : Type 0) : Type 0 where
  pub list : List (State C)
  pub levels : List ℕ

abbrev pub lent : {C : Type 0} → List (State C) → List ℕ → Lent C
lent list levels = record { list = list; levels = levels }

abbrev pub planned_in : {C : Type 0} → Meaning C → Option Fault → List (Row C) → ℕ → ℕ → Lent C → Lent C → Lent C
planned_in k declined rows places bytes found left =
    let list = take places found.list in
    let levels = take bytes found.levels in
    let r = unless_declined declined (planned k (length list) (length levels) rows) in
    lent (list_after k rows r list (take places left.list) ++ drop places found.list) (levels_after k rows r levels ++ drop bytes found.levels)

pub record LentCall : Type 0 where
  pub call : Call
  pub places : ℕ
  pub bytes : ℕ

abbrev pub in_none : Call → LentCall
in_none call = record { call = call; places = 0; bytes = 0 }

abbrev pub lent_plan : ℕ → ℕ → LentCall
lent_plan places bytes = record { call = plan; places = places; bytes = bytes }

abbrev pub lent_trial : ℕ → ℕ → ℕ → LentCall
lent_trial capacity places bytes = record { call = trial capacity; places = places; bytes = bytes }

module _ {C : Type 0} (k : Meaning C) (rows_of : BookFigures → List (Row C)) where
  abbrev pub left_by : BookFigures → Call → ℕ → ℕ → Lent C → Lent C → Lent C
  left_by b plan places bytes found left = planned_in k None (rows_of b) places bytes found left
  left_by b (trial capacity) places bytes found left = planned_in k (refused b.processor b.tally (trial capacity)) (rows_of (at_capacity b capacity)) places bytes found left
  left_by b (admit port task) places bytes found left = found
  left_by b (retire port) places bytes found left = found
  left_by b (serve port cycles) places bytes found left = found
  left_by b (set_capacity capacity) places bytes found left = found
  left_by b (set_clock clock) places bytes found left = found

  abbrev pub lent_after : BookFigures → LentCall → Lent C → Lent C → Lent C
  lent_after b c found left = left_by b c.call c.places c.bytes found left

  abbrev pub Leaves : BookFigures → List LentCall → Lent C → Lent C → Type 0
  Leaves b [] found left = left ≡ found
  Leaves b (c ∷ cs) found left = (next : Lent C) × (next ≡ lent_after b c found next) × (length next.list ≡ length found.list) × Leaves (after b c.call) cs next left
