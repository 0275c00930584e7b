use Rattle.std.proofs.Common.{◌≡◌, Bool, cond, not, length, Some, None, Option, sym, ap, ◌∙◌}
use Rattle.board.specs.declared.faults.Fault.{Fault}
use Rattle.board.specs.declared.faults.Fault.TheVariants.{BadSetting}
use Rattle.board.specs.Views.{processor_figures}
use Rattle.plans.specs.Plans.{planned, list_after, levels_after}
use Rattle.plans.specs.Boards.{standing, joint_period, periodic_limit}
use Rattle.tally.specs.Tally.{trial}
use Rattle.tally.specs.Refusals.{refused}
use Rattle.tally.specs.Books.{book_figures}
use Rattle.tally.specs.Plans.{at_capacity, unless_declined, periodic_plan}
use Rattle.tally.proofs.Refusing.{accepted_changes}
use Rattle.fronts.specs.Views.{listed_rows}
use Rattle.book.specs.Tasks.{figures_of}
use Rattle.book.specs.Views.{periodic_figures}
use Rattle.book.proofs.Adding.{few_levels}
use Rattle.book.proofs.ByPort.{processor_good}
use Rattle.book.proofs.Pricing.{rows_are}
use Rattle.book.proofs.periodic.PeriodicBook.trial.Goals as goal

pub returns : goal.returns
returns g c =
    let k = g.K.Kind.meaning in
    let book = c.args.self.now in
    let b = periodic_figures book in
    let p = processor_figures book.processor in
    let ss = standing 1 (figures_of book.tasks) in
    let h = joint_period ss in
    let room = length c.args.list.now in
    let buffer = length c.args.levels.now in
    let e = rows_are k p (few_levels p (processor_good book.processor)) h (λ s. periodic_limit h c.args.thousandths) ss (listed_rows c.periodic_rows-rows.result) c.periodic_rows-rows.ensures in
    let taken : refused p b.tally (trial c.args.thousandths) ≡ None = ap (λ (x : Bool). cond (not x) (Some BadSetting) None) (sym c.if-not-capacity_fits.ensures) in
    record {
      answer = c.plan.ensures.answer ∙ ap (planned k room buffer) e ∙ ap (λ (o : Option Fault). unless_declined o (periodic_plan k (at_capacity b c.args.thousandths) room buffer)) (sym taken);
      book = ap (λ n. book_figures p (record { capacity = n; clock = 0; tasks = b.tally.tasks })) c.drop-guard.ensures ∙ accepted_changes b (trial c.args.thousandths) taken;
      list = c.plan.ensures.list ∙ ap (λ rows. list_after k rows c.plan.result c.args.list.now c.plan.new.list) e;
      levels = c.plan.ensures.levels ∙ ap (λ rows. levels_after k rows c.plan.result c.args.levels.now) e;
    }
