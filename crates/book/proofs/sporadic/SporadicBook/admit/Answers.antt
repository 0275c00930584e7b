use Rattle.std.proofs.Common.{Some, Err, ap, ◌∙◌}
use Rattle.std.proofs.lemmas.List.{length-set}
use Rattle.std.proofs.lemmas.Result.{err_from_is_err_and}
use Rattle.board.specs.declared.dues.Due.TheVariants.{Deadline}
use Rattle.tally.specs.Tally.{admit}
use Rattle.tally.specs.Books.{book_figures}
use Rattle.tally.proofs.Refusing.{declined_answer, declined_stays, accepted_answer, accepted_changes}
use Rattle.book.specs.Tasks.{task_of}
use Rattle.book.specs.Views.{sporadic_figures}
use Rattle.book.proofs.Admitting.{by_port, by_figures, tasks_with, sporadic_taken, sporadic_fit}
use Rattle.book.proofs.sporadic.SporadicBook.admit.Goals as goal

pub returns-in_err-place : goal.returns-in_err-place
returns-in_err-place c =
    let b = sporadic_figures c.args.self.now in
    let task = task_of c.args.cycles c.args.access c.args.shares.now (Deadline c.args.deadline) in
    let call = admit c.args.port task in
    let f = c.in_err-place.field-0.0 in
    let r = err_from_is_err_and c.from_residual.result c.from_residual.ensures.1 in
    let e = by_port b.processor 1000 b.tally.clock c.args.self.now.tasks c.args.port task f c.in_err-place.ensures in
    record { answer = r.1 ∙ ap Err r.2 ∙ declined_answer b call f e; book = declined_stays b call f e }

pub returns-in_err-task : goal.returns-in_err-task
returns-in_err-task c =
    let b = sporadic_figures c.args.self.now in
    let task = task_of c.args.cycles c.args.access c.args.shares.now (Deadline c.args.deadline) in
    let call = admit c.args.port task in
    let f = c.in_err-task.field-0.0 in
    let r = err_from_is_err_and c.from_residual-in_err-task.result c.from_residual-in_err-task.ensures.1 in
    let e = by_figures b.processor 1000 b.tally.clock c.args.self.now.tasks c.args.port task c.in_ok-place.place c.in_ok-place.ensures f c.in_err-task.ensures in
    record { answer = r.1 ∙ ap Err r.2 ∙ declined_answer b call f e; book = declined_stays b call f e }

pub invariant_of-self : goal.invariant_of-self
invariant_of-self c =
    let book = c.args.self.now in
    record {
      ports = length-set book.tasks c.in_ok-place.place (Some c.in_ok-task.task) ∙ book.ports;
      fit = sporadic_fit book c.args.port c.args.cycles c.args.access c.args.shares.now c.args.deadline c.in_ok-place.place c.in_ok-place.ensures c.in_ok-task.task c.in_ok-task.ensures;
    }

pub returns : goal.returns
returns c =
    let b = sporadic_figures c.args.self.now in
    let task = task_of c.args.cycles c.args.access c.args.shares.now (Deadline c.args.deadline) in
    let call = admit c.args.port task in
    let e = sporadic_taken c.args.self.now c.args.port c.args.cycles c.args.access c.args.shares.now c.args.deadline c.in_ok-place.place c.in_ok-place.ensures c.in_ok-task.task c.in_ok-task.ensures in
    let tasks = tasks_with b.processor 1000 b.tally.clock c.args.self.now.tasks c.args.port task c.in_ok-place.place c.in_ok-place.ensures c.in_ok-task.task c.in_ok-task.ensures in
    record {
      answer = accepted_answer b call e;
      book = ap (λ xs. book_figures b.processor (record { capacity = 1000; clock = b.tally.clock; tasks = xs })) tasks ∙ accepted_changes b call e;
    }
