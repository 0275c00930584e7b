use Rattle.std.proofs.Common.{◌≡◌, ℕ, ◌<◌, ◌≤◌, length, get_or, take, drop}
use Rattle.fronts.specs.declared.row.Row.{Row}
use Rattle.fronts.specs.Rows.{rows_of, bound_at}
use Rattle.fronts.proofs.Bounding.{left_by}
use Rattle.fronts.specs.Views.{listed_rows}
use Rattle.fronts.proofs.limits.bounds.Given as goal

-- the rows that are left are the first ones
abbrev pub invariant-loop-i : goal.invariant-loop-i
invariant-loop-i g l =
    let rest = l.i-iterator.iter.iter.rest.now in
    (length l.bounds ≡ 48) × (rest ≡ take (length rest) (listed_rows l.rows)) × (l.i-iterator.iter.count ≡ 0) × (l.left ≡ left_by (rows_of g.K.Kind.meaning (drop (length rest) (listed_rows l.rows))))
    × ((j : ℕ) (row : Row) → length rest ≤ j → j < length (listed_rows l.rows) → row ≡ get_or (listed_rows l.rows) j row → get_or l.bounds j 0 ≡ bound_at g.K.Kind.meaning (listed_rows l.rows) j row)
