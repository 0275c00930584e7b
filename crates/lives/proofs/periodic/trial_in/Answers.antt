use Rattle.tally.specs.Tally.{trial}
use Rattle.tally.specs.Refusals.{refused}
use Rattle.tally.specs.Plans.{at_capacity, periodic_rows_of}
use Rattle.book.specs.Views.{periodic_figures}
use Rattle.lives.proofs.Parting.{planned_part}
use Rattle.lives.proofs.periodic.trial_in.Goals as goal

pub returns : goal.returns
returns g c =
    let k = g.K.Kind.meaning in
    let b = periodic_figures c.args.book.now in
    let declined = refused b.processor b.tally (trial c.args.thousandths) in
    record {
      book = c.trial.ensures.book;
      left = planned_part k declined (periodic_rows_of k (at_capacity b c.args.thousandths)) c.args.places c.args.bytes c.args.list.now c.args.levels.now c.min-places.result c.min-bytes.result c.min-places.ensures c.min-bytes.ensures c.trial.new.list c.trial.new.levels c.trial.result c.trial.ensures.answer c.trial.ensures.list c.trial.ensures.levels c.trial.auto.list;
    }
