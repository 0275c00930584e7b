use Rattle.std.proofs.Common.{◌≡◌, ◌*◌, ◌≤◌, drop}
use Rattle.plans.specs.Plans.{none_fits}
use Rattle.fronts.specs.Rows.{rows_of}
use Rattle.fronts.proofs.limits.passed_limit.Given as goal

abbrev pub invariant-loop-row : goal.invariant-loop-row
invariant-loop-row g l =
    (none_fits l.sum (rows_of g.K.Kind.meaning (drop l.row-index l.row-items)) ≡ none_fits 0 (rows_of g.K.Kind.meaning l.row-items))
    × (l.sum ≤ l.row-index * 60000000)
