use Rattle.std.proofs.Common.{◌≡◌, ◌+◌, ◌≤◌, length, reverse, take, drop}
use Rattle.fronts.specs.Rows.{rows_of}
use Rattle.fronts.proofs.Progress.{Progress}
use Rattle.fronts.specs.Views.{listed_rows}
use Rattle.fronts.proofs.plan.make_fronts.Given as goal

abbrev pub invariant-loop-row : goal.invariant-loop-row
invariant-loop-row g l =
    let k = g.K.Kind.meaning in
    let n = length l.yielded in
    Progress k l.initial.list (rows_of k (listed_rows l.rows)) l.list (reverse (rows_of k (take n (listed_rows l.rows)))) (rows_of k (drop n (listed_rows l.rows))) l.last.start l.last.count l.last.base
    × (l.last.base ≤ l.last.start + 1)
    × (l.row-iterator.a.rest.now ≡ drop n (listed_rows l.rows))
    × (l.row-iterator.b.rest.now ≡ drop n l.bounds)
