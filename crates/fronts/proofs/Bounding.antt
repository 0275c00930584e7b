-- The smallest loads against the limits, row by row.
use Rattle.std.proofs.Common.{◌≡◌, ℕ, ◌+◌, ◌-◌, ◌<◌, ◌≤◌, leb, List, [], ◌∷◌, length, get_or, drop, Some, None, Option, sym, refl, ap, ◌∙◌}
use Rattle.std.proofs.lemmas.List.{at_drop_more, at_drop_all}
use Rattle.std.proofs.lemmas.Bool.{le-leb, lt-leb, cond-true, cond-false}
use Rattle.board.specs.declared.faults.Fault.TheVariants.{NoneFits}
use Rattle.cost.specs.Kinds.{Meaning}
use Rattle.plans.specs.Choices
use Rattle.plans.specs.Choices.{smallest}
use Rattle.plans.specs.Plans.{none_fits}
use Rattle.plans.specs.Promises.{bound}
use Rattle.fronts.specs.declared.row.Row.{Row}
use Rattle.fronts.specs.Rows.{offers_from, row_of, rows_of, lesser}

module _ {C : Type 0} (k : Meaning C) (rs : List Row) (i : ℕ) (h : i < length rs) (r : Row) (is : r ≡ get_or rs i r) where
  -- the rows from this one on
  pub rows_from : rows_of k (drop i rs) ≡ row_of k r ∷ rows_of k (drop (i + 1) rs)
  rows_from = at_drop_more (rows_of k) rs i r h ∙ ap (λ (x : Row). row_of k x ∷ rows_of k (drop (i + 1) rs)) (sym is)

  pub row_passes : (sum : ℕ) → r.limit < sum + smallest (offers_from k r.offers 0 8) → none_fits sum (rows_of k (drop i rs)) ≡ Some (NoneFits r.port)
  row_passes sum over = ap (none_fits sum) rows_from ∙ cond-false (leb (sum + smallest (offers_from k r.offers 0 8)) r.limit) _ _ (lt-leb _ _ over)

  pub row_keeps : (sum : ℕ) → sum + smallest (offers_from k r.offers 0 8) ≤ r.limit → none_fits sum (rows_of k (drop i rs)) ≡ none_fits (sum + smallest (offers_from k r.offers 0 8)) (rows_of k (drop (i + 1) rs))
  row_keeps sum within = ap (none_fits sum) rows_from ∙ cond-true (leb (sum + smallest (offers_from k r.offers 0 8)) r.limit) _ _ (le-leb _ _ within)

pub rows_end : {C : Type 0} (k : Meaning C) (rs : List Row) (i : ℕ) → length rs ≤ i → rows_of k (drop i rs) ≡ []
rows_end k rs i h = at_drop_all (rows_of k) rs i h

-- what the rows leave to the one before them
abbrev pub left_by : {C : Type 0} → List (Choices.Row C) → Option ℕ
left_by [] = None
left_by (r ∷ rs) = Some (bound r rs - smallest r.offers)

pub bound_left : {C : Type 0} (r : Choices.Row C) (rs : List (Choices.Row C)) → bound r rs ≡ lesser (left_by rs) r.limit
bound_left r [] = refl
bound_left r (next ∷ rs) = refl
