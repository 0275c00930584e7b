use Rattle.cost.specs.Totals.{never_declined, order_kept, any_order}
use Rattle.cost.proofs.sums.entry_limit.Goals as goal

pub returns : goal.returns
returns g c =
    let k = g.K.Kind.meaning in
    let laws = g.met.K.Kind.laws in
    record {
      answer = c.limit.ensures;
      never_declined = never_declined k laws;
      order_kept = order_kept k laws;
      any_order = any_order k laws;
    }
