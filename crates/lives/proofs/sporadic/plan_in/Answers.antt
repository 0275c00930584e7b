use Rattle.std.proofs.Common.{None}
use Rattle.tally.specs.Plans.{sporadic_rows_of}
use Rattle.book.specs.Views.{sporadic_figures}
use Rattle.lives.proofs.Parting.{planned_part}
use Rattle.lives.proofs.sporadic.plan_in.Goals as goal

pub returns : goal.returns
returns g c =
    let k = g.K.Kind.meaning in
    planned_part k None (sporadic_rows_of k (sporadic_figures c.args.book.now)) c.args.places c.args.bytes c.args.list.now c.args.levels.now c.min-places.result c.min-bytes.result c.min-places.ensures c.min-bytes.ensures c.plan.new.list c.plan.new.levels c.plan.result c.plan.ensures.answer c.plan.ensures.list c.plan.ensures.levels c.plan.auto.list
