use Rattle.std.proofs.Common.{length, ap, ◌∙◌}
use Rattle.board.specs.Views.{processor_figures}
use Rattle.plans.specs.Plans.{planned, list_after, levels_after}
use Rattle.plans.specs.Boards.{standing, joint_period, periodic_limit}
use Rattle.fronts.specs.Views.{listed_rows}
use Rattle.book.specs.Tasks.{figures_of}
use Rattle.book.proofs.Adding.{few_levels}
use Rattle.book.proofs.ByPort.{processor_good}
use Rattle.book.proofs.Pricing.{rows_are}
use Rattle.book.proofs.periodic.PeriodicBook.plan.Goals as goal

pub returns : goal.returns
returns g c =
    let k = g.K.Kind.meaning in
    let book = c.args.self.now in
    let p = processor_figures book.processor in
    let ss = standing 1 (figures_of book.tasks) in
    let h = joint_period ss in
    let e = rows_are k p (few_levels p (processor_good book.processor)) h (λ s. periodic_limit h book.capacity.thousandths) ss (listed_rows c.periodic_rows-rows.result) c.periodic_rows-rows.ensures in
    record {
      answer = c.plan.ensures.answer ∙ ap (planned k (length c.args.list.now) (length c.args.levels.now)) e;
      list = c.plan.ensures.list ∙ ap (λ rows. list_after k rows c.plan.result c.args.list.now c.plan.new.list) e;
      levels = c.plan.ensures.levels ∙ ap (λ rows. levels_after k rows c.plan.result c.args.levels.now) e;
    }
