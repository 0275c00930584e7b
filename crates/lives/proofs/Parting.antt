-- A plan in the first places of a list and the first bytes of a buffer.
use Rattle.std.proofs.Common.{◌≡◌, ℕ, min, List, ◌++◌, length, take, drop, Option, Result, sym, ap, ◌∙◌, inl, inr, append-nil, arith}
use native.Mathlib.Nat.{min-eq_left, min-eq_right}
use Rattle.std.proofs.lemmas.List.{take_all, take_at, drop_all, length-take}
use Rattle.std.proofs.lemmas.Bool.{cases_lt}
use Rattle.board.specs.declared.faults.Fault.{Fault}
use Rattle.cost.specs.Kinds.{Meaning}
use Rattle.plans.specs.declared.figures.Figures.{Figures}
use Rattle.plans.specs.declared.states.State.{State}
use Rattle.plans.specs.Choices.{Row}
use Rattle.plans.specs.Plans.{planned, list_after, levels_after}
use Rattle.tally.specs.Plans.{unless_declined}
use Rattle.tally.specs.Lent.{lent, planned_in}

-- the first `places` of a list, cut where it ends
module _ {X : Type 0} (xs : List X) (places n : ℕ) (is : n ≡ min (length xs) places) where
  pub part_read : take n xs ≡ take places xs
  part_read = elim (cases_lt (length xs) places) [
    | inl h ↦ let e : n ≡ length xs = omega (arith, min-eq_left {n = length xs} {m = places} (omega arith)) in take_all n xs (omega arith) ∙ sym (take_all places xs (omega arith))
    | inr h ↦ let e : n ≡ places = omega (arith, min-eq_right {n = places} {m = length xs} h) in ap (λ i. take i xs) e
  ]

  pub part_rest : drop n xs ≡ drop places xs
  part_rest = elim (cases_lt (length xs) places) [
    | inl h ↦ let e : n ≡ length xs = omega (arith, min-eq_left {n = length xs} {m = places} (omega arith)) in drop_all n xs (omega arith) ∙ sym (drop_all places xs (omega arith))
    | inr h ↦ let e : n ≡ places = omega (arith, min-eq_right {n = places} {m = length xs} h) in ap (λ i. drop i xs) e
  ]

  -- what was left there
  pub part_left : (ys : List X) → length ys ≡ length (take n xs) → take places (ys ++ drop places xs) ≡ ys
  part_left ys e = elim (cases_lt (length xs) places) [
    | inl h ↦
        let all : ys ++ drop places xs ≡ ys = ap (λ l. ys ++ l) (drop_all places xs (omega arith)) ∙ append-nil ys in
        ap (take places) all ∙ take_all places ys (omega (arith, length-take places xs, ap length part_read, min-eq_right {n = length xs} {m = places} (omega arith)))
    | inr h ↦ take_at ys (drop places xs) places (omega (arith, length-take places xs, ap length part_read, min-eq_left {n = places} {m = length xs} h))
  ]

module _ {C : Type 0} (k : Meaning C) (declined : Option Fault) (rows : List (Row C)) (places bytes : ℕ) (xs : List (State C)) (ls : List ℕ) (m n : ℕ) (is : m ≡ min (length xs) places) (are : n ≡ min (length ls) bytes) (ys : List (State C)) (zs : List ℕ) (r : Result (Figures C) Fault) where
  abbrev list : List (State C)
  list = ys ++ drop m xs

  abbrev levels : List ℕ
  levels = zs ++ drop n ls

  pub planned_part : r ≡ unless_declined declined (planned k (length (take m xs)) (length (take n ls)) rows) → ys ≡ list_after k rows r (take m xs) ys → zs ≡ levels_after k rows r (take n ls) → length ys ≡ length (take m xs) →
      lent list levels ≡ planned_in k declined rows places bytes (lent xs ls) (lent list levels)
  planned_part answer listed leveled kept =
      let s = unless_declined declined (planned k (length (take places xs)) (length (take bytes ls)) rows) in
      let left : take places list ≡ ys = ap (λ l. take places (ys ++ l)) (part_rest xs places m is) ∙ part_left xs places m is ys kept in
      let answered : r ≡ s = answer ∙ ap (λ (l : List (State C)). unless_declined declined (planned k (length l) (length (take n ls)) rows)) (part_read xs places m is) ∙ ap (λ (l : List ℕ). unless_declined declined (planned k (length (take places xs)) (length l) rows)) (part_read ls bytes n are) in
      let list_is : ys ≡ list_after k rows s (take places xs) (take places list) = listed ∙ ap (λ x. list_after k rows x (take m xs) ys) answered ∙ ap (λ l. list_after k rows s l ys) (part_read xs places m is) ∙ ap (list_after k rows s (take places xs)) (sym left) in
      let levels_are : zs ≡ levels_after k rows s (take bytes ls) = leveled ∙ ap (λ x. levels_after k rows x (take n ls)) answered ∙ ap (levels_after k rows s) (part_read ls bytes n are) in
      ap (λ l. lent l levels) (ap (λ l. l ++ drop m xs) list_is ∙ ap (λ l. list_after k rows s (take places xs) (take places list) ++ l) (part_rest xs places m is))
      ∙ ap (λ l. lent (list_after k rows s (take places xs) (take places list) ++ drop places xs) l) (ap (λ l. l ++ drop n ls) levels_are ∙ ap (λ l. levels_after k rows s (take bytes ls) ++ l) (part_rest ls bytes n are))
