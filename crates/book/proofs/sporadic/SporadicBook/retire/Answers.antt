use Rattle.std.proofs.Common.{Err, ap, ◌∙◌}
use Rattle.std.proofs.lemmas.Result.{err_from_is_err_and}
use Rattle.board.specs.Views.{processor_figures}
use Rattle.tally.specs.Tally.{retire}
use Rattle.tally.specs.Boards.{sporadic_task}
use Rattle.tally.proofs.Refusing.{declined_answer, declined_stays, accepted_answer}
use Rattle.book.specs.Views.{sporadic_figures}
use Rattle.book.proofs.Retiring.{by_port, taken_off, book_left, ports_left, each_left}
use Rattle.book.proofs.sporadic.SporadicBook.retire.Goals as goal

pub returns-in_err-place : goal.returns-in_err-place
returns-in_err-place c =
    let b = sporadic_figures c.args.self.now in
    let call = retire c.args.port in
    let f = c.in_err-place.field-0.0 in
    let r = err_from_is_err_and c.from_residual.result c.from_residual.ensures.1 in
    let e = by_port b.processor 1000 b.tally.clock c.args.self.now.tasks c.args.port f c.in_err-place.ensures in
    record { answer = r.1 ∙ ap Err r.2 ∙ declined_answer b call f e; book = declined_stays b call f e }

pub invariant_of-self : goal.invariant_of-self
invariant_of-self c =
    let book = c.args.self.now in
    let p = processor_figures book.processor in
    let place = c.in_ok-place.place in
    let found = c.in_ok-place.ensures in
    let left = c.without-self.result in
    let is = c.without-self.ensures in
    record { ports = ports_left p 1000 book.clock book.tasks c.args.port place found left is ∙ book.ports; fit = each_left p 1000 book.clock book.tasks c.args.port place found left is (sporadic_task p) book.fit }

pub returns : goal.returns
returns c =
    let book = c.args.self.now in
    let b = sporadic_figures book in
    let port = c.args.port in
    let place = c.in_ok-place.place in
    let found = c.in_ok-place.ensures in
    record {
      answer = accepted_answer b (retire port) (taken_off b.processor 1000 b.tally.clock book.tasks port place found);
      book = book_left b.processor 1000 b.tally.clock book.tasks port place found c.without-self.result c.without-self.ensures;
    }
