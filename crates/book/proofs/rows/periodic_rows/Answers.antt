use Rattle.std.proofs.Common.{leb}
use Rattle.std.proofs.lemmas.Bool.{and_parts}
use Rattle.board.specs.Periods.{longest}
use Rattle.board.specs.Views.{processor_figures}
use Rattle.plans.specs.Boards.{standing, joint_period}
use Rattle.tally.specs.Boards.{periodic_task, each_task}
use Rattle.book.specs.Tasks.{figures_of}
use Rattle.book.proofs.Admitting.{have_periods}
use Rattle.book.proofs.rows.periodic_rows.Goals as goal

pub hyperperiod_of-requires : goal.hyperperiod_of-requires
hyperperiod_of-requires c =
    let p = processor_figures c.args.processor.now in
    let ts = figures_of c.args.tasks.now in
    have_periods p ts (and_parts (each_task (periodic_task p) ts) (leb (joint_period (standing 1 ts)) longest) c.requires.fit).0
