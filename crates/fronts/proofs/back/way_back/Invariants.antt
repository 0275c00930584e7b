use Rattle.std.proofs.Common.{◌≡◌, length, reverse, take, drop}
use Rattle.fronts.specs.Rows.{rows_of}
use Rattle.fronts.proofs.Returning.{Way}
use Rattle.fronts.specs.Views.{listed_rows}
use Rattle.fronts.proofs.back.way_back.Given as goal

-- the rows that are left are the first ones
abbrev pub invariant-loop-row : goal.invariant-loop-row
invariant-loop-row g l =
    let k = g.K.Kind.meaning in
    let rest = l.row-iterator.iter.rest.now in
    Way k (rows_of k (listed_rows l.rows)) (reverse (rows_of k (take (length rest) (listed_rows l.rows)))) (rows_of k (drop (length rest) (listed_rows l.rows))) l.position l.picks × (rest ≡ take (length rest) (listed_rows l.rows))
