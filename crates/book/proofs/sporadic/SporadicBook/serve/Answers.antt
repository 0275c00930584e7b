use Rattle.std.proofs.Common.{◌<◌, length, Err, sym, ap, ◌∙◌, arith}
use Rattle.std.proofs.lemmas.List.{length-set}
use Rattle.std.proofs.lemmas.Result.{err_from_is_err_and}
use Rattle.tally.specs.Tally.{serve}
use Rattle.tally.specs.Books.{book_figures}
use Rattle.tally.proofs.Refusing.{declined_answer, declined_stays, accepted_answer, accepted_changes}
use Rattle.book.specs.Tasks.{rest_after}
use Rattle.book.specs.Views.{sporadic_figures}
use Rattle.book.proofs.Placing.{place_within}
use Rattle.book.proofs.Serves.{by_port, by_cycles, taken, tasks_with, fit_with}
use Rattle.book.proofs.sporadic.SporadicBook.serve.Goals as goal

pub returns-in_err-place : goal.returns-in_err-place
returns-in_err-place c =
    let b = sporadic_figures c.args.self.now in
    let call = serve c.args.port c.args.cycles in
    let f = c.in_err-place.field-0.0 in
    let r = err_from_is_err_and c.from_residual.result c.from_residual.ensures.1 in
    let e = by_port b.processor 1000 b.tally.clock c.args.self.now.tasks c.args.port c.args.cycles f c.in_err-place.ensures in
    record { answer = r.1 ∙ ap Err r.2 ∙ declined_answer b call f e; book = declined_stays b call f e }

pub returns-in_err-rest : goal.returns-in_err-rest
returns-in_err-rest c =
    let b = sporadic_figures c.args.self.now in
    let call = serve c.args.port c.args.cycles in
    let f = c.in_err-rest.field-0.0 in
    let r = err_from_is_err_and c.from_residual-in_err-rest.result c.from_residual-in_err-rest.ensures.1 in
    let within : c.in_ok-place.place < length c.args.self.now.tasks = omega (arith, place_within c.args.self.now.tasks c.args.port c.in_ok-place.place c.in_ok-place.ensures, c.args.self.now.ports) in
    let e = by_cycles b.processor 1000 b.tally.clock c.args.self.now.tasks c.args.port c.args.cycles c.in_ok-place.place c.in_ok-place.ensures c.index-self-place.result within c.index-self-place.is f (c.in_err-rest.ensures ∙ ap (λ o. rest_after o c.args.port c.args.cycles) (sym c.index-self-place.is)) in
    record { answer = r.1 ∙ ap Err r.2 ∙ declined_answer b call f e; book = declined_stays b call f e }

pub invariant_of-self : goal.invariant_of-self
invariant_of-self c =
    let book = c.args.self.now in
    let b = sporadic_figures book in
    let within : c.in_ok-place.place < length book.tasks = omega (arith, place_within book.tasks c.args.port c.in_ok-place.place c.in_ok-place.ensures, book.ports) in
    record {
      ports = length-set book.tasks c.in_ok-place.place c.in_ok-rest.rest ∙ book.ports;
      fit = fit_with b.processor 1000 b.tally.clock book.tasks c.args.port c.args.cycles c.in_ok-place.place c.in_ok-place.ensures c.index-self-place.result within c.index-self-place.is c.in_ok-rest.rest (c.in_ok-rest.ensures ∙ ap (λ o. rest_after o c.args.port c.args.cycles) (sym c.index-self-place.is)) book.fit;
    }

pub returns : goal.returns
returns c =
    let book = c.args.self.now in
    let b = sporadic_figures book in
    let call = serve c.args.port c.args.cycles in
    let within : c.in_ok-place.place < length book.tasks = omega (arith, place_within book.tasks c.args.port c.in_ok-place.place c.in_ok-place.ensures, book.ports) in
    let good = c.in_ok-rest.ensures ∙ ap (λ o. rest_after o c.args.port c.args.cycles) (sym c.index-self-place.is) in
    let e = taken b.processor 1000 b.tally.clock book.tasks c.args.port c.args.cycles c.in_ok-place.place c.in_ok-place.ensures c.index-self-place.result within c.index-self-place.is c.in_ok-rest.rest good in
    let tasks = tasks_with b.processor 1000 b.tally.clock book.tasks c.args.port c.args.cycles c.in_ok-place.place c.in_ok-place.ensures c.index-self-place.result within c.index-self-place.is c.in_ok-rest.rest good in
    record {
      answer = accepted_answer b call e;
      book = ap (λ xs. book_figures b.processor (record { capacity = 1000; clock = b.tally.clock; tasks = xs })) tasks ∙ accepted_changes b call e;
    }
