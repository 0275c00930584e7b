-- From the steps of planning to its definition.
use Rattle.std.proofs.Common.{◌≡◌, ℕ, ◌+◌, ◌≤◌, cond, T, eqb, List, [], length, take, drop, Some, None, Ok, Err, Option, Result, sym, refl, ap, ◌∙◌, inl, inr}
use Rattle.std.proofs.lemmas.List.{take_at}
use Rattle.std.proofs.lemmas.Bool.{le-ltb}
use Rattle.board.specs.declared.faults.Fault.{Fault}
use Rattle.board.specs.declared.faults.Fault.TheVariants.{ShortBuffer}
use Rattle.board.specs.Faults.{numbered}
use Rattle.cost.specs.Kinds.{Meaning, Laws}
use Rattle.plans.specs.declared.states.State.{State}
use Rattle.plans.specs.Choices.{Row, fits}
use Rattle.plans.specs.declared.figures.Figures.{Figures}
use Rattle.plans.specs.Places.{or_else, sizes, best}
use Rattle.plans.specs.Plans.{none_fits, list_full, unless, last_limit, figures, planned, laid, list_after, levels_after}
use Rattle.plans.proofs.Fitting.{none_fits_by, list_full_by, plans_best, none_fits_exactly}
use Rattle.plans.proofs.Members.{none-some, same_some}
use Rattle.plans.specs.Promises.{PlanOf, NoChoice, number_of}
use Rattle.fronts.specs.declared.rows.Rows.{Rows}
use Rattle.fronts.specs.Rows.{rows_of}
use Rattle.fronts.specs.Views.{listed_rows}
use Rattle.fronts.proofs.Apart.{counted}
use Rattle.fronts.proofs.Rowing.{rows_stand}

-- no limit is passed
pub none_passed : {C : Type 0} (rows : List (Row C)) → none_fits 0 rows ≡ None → T (fits 0 rows)
none_passed rows e = elim (none_fits_by rows 0) [ inl h ↦ h.1 | inr h ↦ absurd (none-some e h.1) ]

module _ {C : Type 0} (k : Meaning C) (rows : List (Row C)) (room buffer : ℕ) (long : 48 ≤ buffer) (kept : none_fits 0 rows ≡ None) where
  answers : (r : Option Fault) → list_full k room [] rows ≡ r → planned k room buffer rows ≡ unless r (figures k rows)
  answers r e =
      ap (λ b. unless (or_else (cond b (Some ShortBuffer) None) (or_else (none_fits 0 rows) (list_full k room [] rows))) (figures k rows)) (le-ltb buffer 48 long)
      ∙ ap (λ (n : Option Fault). unless (or_else n (list_full k room [] rows)) (figures k rows)) kept
      ∙ ap (λ (f : Option Fault). unless f (figures k rows)) e

  pub answers_plan : list_full k room [] rows ≡ None → planned k room buffer rows ≡ Ok (figures k rows)
  answers_plan = answers None

  pub answers_full : (fault : Fault) → list_full k room [] rows ≡ Some fault → planned k room buffer rows ≡ Err fault
  answers_full fault = answers (Some fault)

-- a limit that is passed is the answer
pub answers_none_fits : {C : Type 0} (k : Meaning C) (rows : List (Row C)) (room buffer : ℕ) → 48 ≤ buffer → (fault : Fault) → none_fits 0 rows ≡ Some fault → planned k room buffer rows ≡ Err fault
answers_none_fits k rows room buffer long fault e =
    ap (λ b. unless (or_else (cond b (Some ShortBuffer) None) (or_else (none_fits 0 rows) (list_full k room [] rows))) (figures k rows)) (le-ltb buffer 48 long)
    ∙ ap (λ (n : Option Fault). unless (or_else n (list_full k room [] rows)) (figures k rows)) e

-- after 33 the list may hold anything
pub open_list : {C : Type 0} (k : Meaning C) (rows : List (Row C)) (room : ℕ) (fault : Fault) → list_full k room [] rows ≡ Some fault → (found left : List (State C)) → left ≡ list_after k rows (Err fault) found left
open_list k rows room fault e found left = elim (list_full_by k room [] rows) [
  | inl h ↦ absurd (none-some h.0 e)
  | inr h ↦ sym (ap (λ (f : Fault). cond (eqb (numbered f).number 33) left found) (same_some e h.1))
]

-- the places stand at the start of the list
pub places_first : {X : Type 0} (new old : List X) → take (length new) (laid 0 new old) ≡ new
places_first new old = take_at new (drop (0 + length new) old) (length new) refl

-- the figures that the steps give
pub figures_are : {C : Type 0} (k : Meaning C) (rows : List (Row C)) (b : ℕ × C) → b ≡ ((best k rows).load, (best k rows).cost) → (limit : ℕ) → limit ≡ last_limit rows → (states : ℕ) → states ≡ sizes k [] rows → ◌≡◌ {A = Figures C} (record { cost = b.1; load = b.0; limit = limit; states = states }) (figures k rows)
figures_are {C} k rows b e limit u states v =
    ap {B = Figures C} (λ (x : ℕ × C). record { cost = x.1; load = x.0; limit = limit; states = states }) e
    ∙ ap {B = Figures C} (λ (x : ℕ). record { cost = (best k rows).cost; load = (best k rows).load; limit = x; states = states }) u
    ∙ ap {B = Figures C} (λ (x : ℕ). record { cost = (best k rows).cost; load = (best k rows).load; limit = last_limit rows; states = x }) v

-- what planning promises
module _ {C : Type 0} (k : Meaning C) (laws : Laws k) (all : Rows) (old out : List (State C)) (found left : List ℕ) where
  abbrev rows : List (Row C)
  rows = rows_of k (listed_rows all)

  abbrev Promised : Result (Figures C) Fault → Type 0
  Promised r = record {
    answer : r ≡ planned k (length old) (length found) rows;
    list : out ≡ list_after k rows r old out;
    levels : left ≡ levels_after k rows r found;
    best : (f : Figures C) → r ≡ Ok f → PlanOf k rows f;
    none_fits : 48 ≤ length found → (number_of r ≡ 32 → NoChoice rows) × (NoChoice rows → number_of r ≡ 32);
  }

  pub promised : (r : Result (Figures C) Fault) → r ≡ planned k (length old) (length found) rows → out ≡ list_after k rows r old out → left ≡ levels_after k rows r found → Promised r
  promised r answer list levels =
      let board = rows_stand k (listed_rows all) (counted all) all.fit in
      record {
        answer = answer;
        list = list;
        levels = levels;
        best = λ f e. plans_best k laws rows board (length old) (length found) f (sym answer ∙ e);
        none_fits = λ long. let exactly = none_fits_exactly k rows (length old) (length found) long board in
            ((λ n. exactly.0 (sym (ap number_of answer) ∙ n)), (λ no. ap number_of answer ∙ exactly.1 no));
      }

  -- a list that is full leaves the levels as found, and itself open
  pub promised_full : (fault : Fault) → none_fits 0 rows ≡ None → list_full k (length old) [] rows ≡ Some fault → 48 ≤ length found → left ≡ found → Promised (Err fault)
  promised_full fault kept e long same = promised (Err fault) (sym (answers_full k rows (length old) (length found) long kept fault e)) (open_list k rows (length old) fault e old out) same
