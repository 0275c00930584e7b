use Rattle.std.proofs.Common.{◌+◌, List, length, drop, sym, ap, ◌∙◌, arith}
use Rattle.plans.specs.Plans.{none_fits}
use Rattle.fronts.specs.declared.row.Row.{Row}
use Rattle.fronts.specs.Rows.{rows_of}
use Rattle.fronts.proofs.Apart.{counted}
use Rattle.fronts.proofs.Bounding.{row_passes, row_keeps, rows_end}
use Rattle.fronts.proofs.limits.passed_limit.Goals as goal

pub overflow_add-sum : goal.overflow_add-sum
overflow_add-sum g c = omega (arith, c.loop-row.invariant.1, c.smallest-sum.ensures.bound, ap length c.rows-row-items.ensures, counted c.args.rows.now)

pub returns-then-sum-row : goal.returns-then-sum-row
returns-then-sum-row g c =
    let k = g.K.Kind.meaning in
    let r = c.row-item.result in
    sym (sym c.loop-row.invariant.0 ∙ row_passes k c.rows-row-items.result.now c.loop-row.row-index (omega arith) r c.row-item.is c.loop-row.sum (omega (arith, c.smallest-sum.ensures.value, c.if-sum-row.true))) ∙ ap (λ (rs : List Row). none_fits 0 (rows_of k rs)) c.rows-row-items.ensures

pub loop-row-preserved : goal.loop-row-preserved
loop-row-preserved g c =
    let k = g.K.Kind.meaning in
    let r = c.row-item.result in
    let sum = c.loop-row.sum in (
      ap (λ n. none_fits (sum + n) (rows_of k (drop (c.loop-row.row-index + 1) c.rows-row-items.result.now))) c.smallest-sum.ensures.value
          ∙ sym (row_keeps k c.rows-row-items.result.now c.loop-row.row-index (omega arith) r c.row-item.is sum (omega (arith, c.smallest-sum.ensures.value, c.if-sum-row.false)))
          ∙ c.loop-row.invariant.0,
      omega (arith, c.loop-row.invariant.1, c.smallest-sum.ensures.bound),
    )

pub returns : goal.returns
returns g c = sym (sym c.loop-row.invariant.0 ∙ ap (none_fits c.loop-row.sum) (rows_end g.K.Kind.meaning c.rows-row-items.result.now c.loop-row.row-index (omega arith))) ∙ ap (λ (rs : List Row). none_fits 0 (rows_of g.K.Kind.meaning rs)) c.rows-row-items.ensures
