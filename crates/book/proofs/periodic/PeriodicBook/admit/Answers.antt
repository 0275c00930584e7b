use Rattle.std.proofs.Common.{not, Some, Err, ap, ◌∙◌}
use Rattle.std.proofs.lemmas.List.{length-set}
use Rattle.std.proofs.lemmas.Result.{err_from_is_err_and}
use Rattle.board.specs.declared.dues.Due.TheVariants.{Period}
use Rattle.board.specs.declared.faults.Fault.TheVariants.{LongHyperperiod}
use Rattle.tally.specs.Tally.{admit}
use Rattle.tally.specs.Books.{book_figures}
use Rattle.tally.proofs.Refusing.{declined_answer, declined_stays, accepted_answer, accepted_changes}
use Rattle.book.specs.Tasks.{task_of}
use Rattle.book.specs.Views.{periodic_figures}
use Rattle.book.proofs.Admitting.{by_port, by_figures, tasks_with, periods_with, periodic_long, periodic_taken, periodic_fit}
use Rattle.book.proofs.periodic.PeriodicBook.admit.Goals as goal

pub returns-in_err-place : goal.returns-in_err-place
returns-in_err-place c =
    let b = periodic_figures c.args.self.now in
    let task = task_of c.args.cycles c.args.access c.args.shares.now (Period c.args.period) in
    let call = admit c.args.port task in
    let f = c.in_err-place.field-0.0 in
    let r = err_from_is_err_and c.from_residual.result c.from_residual.ensures.1 in
    let e = by_port b.processor b.tally.capacity 0 c.args.self.now.tasks c.args.port task f c.in_err-place.ensures in
    record { answer = r.1 ∙ ap Err r.2 ∙ declined_answer b call f e; book = declined_stays b call f e }

pub returns-in_err-task : goal.returns-in_err-task
returns-in_err-task c =
    let b = periodic_figures c.args.self.now in
    let task = task_of c.args.cycles c.args.access c.args.shares.now (Period c.args.period) in
    let call = admit c.args.port task in
    let f = c.in_err-task.field-0.0 in
    let r = err_from_is_err_and c.from_residual-in_err-task.result c.from_residual-in_err-task.ensures.1 in
    let e = by_figures b.processor b.tally.capacity 0 c.args.self.now.tasks c.args.port task c.in_ok-place.place c.in_ok-place.ensures f c.in_err-task.ensures in
    record { answer = r.1 ∙ ap Err r.2 ∙ declined_answer b call f e; book = declined_stays b call f e }

pub hyperperiod_of-requires : goal.hyperperiod_of-requires
hyperperiod_of-requires c =
    periods_with c.args.self.now c.args.port c.args.cycles c.args.access c.args.shares.now c.args.period c.in_ok-place.place c.in_ok-place.ensures c.in_ok-task.task c.in_ok-task.ensures

pub returns-then-is_none : goal.returns-then-is_none
returns-then-is_none c =
    let b = periodic_figures c.args.self.now in
    let task = task_of c.args.cycles c.args.access c.args.shares.now (Period c.args.period) in
    let call = admit c.args.port task in
    let e = periodic_long c.args.self.now c.args.port c.args.cycles c.args.access c.args.shares.now c.args.period c.in_ok-place.place c.in_ok-place.ensures c.in_ok-task.task c.in_ok-task.ensures c.hyperperiod_of.result c.hyperperiod_of.ensures (c.is_none.ensures ∙ ap not c.if-is_none.true) in
    record { answer = declined_answer b call (LongHyperperiod c.args.port) e; book = declined_stays b call (LongHyperperiod c.args.port) e }

pub invariant_of-self : goal.invariant_of-self
invariant_of-self c =
    let book = c.args.self.now in
    record {
      ports = length-set book.tasks c.in_ok-place.place (Some c.in_ok-task.task) ∙ book.ports;
      fit = periodic_fit book c.args.port c.args.cycles c.args.access c.args.shares.now c.args.period c.in_ok-place.place c.in_ok-place.ensures c.in_ok-task.task c.in_ok-task.ensures c.hyperperiod_of.result c.hyperperiod_of.ensures (c.is_none.ensures ∙ ap not c.if-is_none.false);
      within = book.within;
    }

pub returns : goal.returns
returns c =
    let b = periodic_figures c.args.self.now in
    let task = task_of c.args.cycles c.args.access c.args.shares.now (Period c.args.period) in
    let call = admit c.args.port task in
    let e = periodic_taken c.args.self.now c.args.port c.args.cycles c.args.access c.args.shares.now c.args.period c.in_ok-place.place c.in_ok-place.ensures c.in_ok-task.task c.in_ok-task.ensures c.hyperperiod_of.result c.hyperperiod_of.ensures (c.is_none.ensures ∙ ap not c.if-is_none.false) in
    let tasks = tasks_with b.processor b.tally.capacity 0 c.args.self.now.tasks c.args.port task c.in_ok-place.place c.in_ok-place.ensures c.in_ok-task.task c.in_ok-task.ensures in
    record {
      answer = accepted_answer b call e;
      book = ap (λ xs. book_figures b.processor (record { capacity = b.tally.capacity; clock = 0; tasks = xs })) tasks ∙ accepted_changes b call e;
    }
