use Rattle.std.proofs.Common.{◌≤◌, leb, set, None, Err, ap, ◌∙◌, arith}
use Rattle.std.proofs.lemmas.Result.{err_from_is_err_and}
use Rattle.std.proofs.lemmas.Bool.{and_parts, and_from, leb-true, le-leb}
use Rattle.board.specs.Periods.{longest}
use Rattle.board.specs.Views.{processor_figures}
use Rattle.plans.specs.Boards.{standing, joint_period}
use Rattle.tally.specs.Tally.{retire}
use Rattle.tally.specs.Boards.{periodic_task, each_task}
use Rattle.tally.proofs.Periods.{joint_retired}
use Rattle.tally.proofs.Refusing.{declined_answer, declined_stays, accepted_answer}
use Rattle.book.specs.Tasks.{figures_of}
use Rattle.book.specs.Views.{periodic_figures}
use Rattle.book.proofs.Placing.{figures_set}
use Rattle.book.proofs.Retiring.{by_port, taken_off, book_left, ports_left, each_left}
use Rattle.book.proofs.periodic.PeriodicBook.retire.Goals as goal

pub returns-in_err-place : goal.returns-in_err-place
returns-in_err-place c =
    let b = periodic_figures c.args.self.now in
    let call = retire c.args.port in
    let f = c.in_err-place.field-0.0 in
    let r = err_from_is_err_and c.from_residual.result c.from_residual.ensures.1 in
    let e = by_port b.processor b.tally.capacity 0 c.args.self.now.tasks c.args.port f c.in_err-place.ensures in
    record { answer = r.1 ∙ ap Err r.2 ∙ declined_answer b call f e; book = declined_stays b call f e }

pub invariant_of-self : goal.invariant_of-self
invariant_of-self c =
    let book = c.args.self.now in
    let p = processor_figures book.processor in
    let ts = figures_of book.tasks in
    let i = c.in_ok-place.place in
    let left = c.without-self.result in
    let is = c.without-self.ensures in
    let parts = and_parts (each_task (periodic_task p) ts) (leb (joint_period (standing 1 ts)) longest) book.fit in
    let each = each_left p book.capacity.thousandths 0 book.tasks c.args.port i c.in_ok-place.ensures left is (periodic_task p) parts.0 in
    let shorter : joint_period (standing 1 (set ts i None)) ≤ longest = omega (arith, joint_retired p ts i parts.0, leb-true _ _ parts.1) in
    let short : joint_period (standing 1 (figures_of left)) ≤ longest = omega (arith, shorter, ap (λ us. joint_period (standing 1 us)) (ap figures_of is ∙ figures_set book.tasks i None)) in
    record { ports = ports_left p book.capacity.thousandths 0 book.tasks c.args.port i c.in_ok-place.ensures left is ∙ book.ports; fit = and_from _ _ each (le-leb _ longest short); within = book.within }

pub returns : goal.returns
returns c =
    let book = c.args.self.now in
    let b = periodic_figures book in
    let port = c.args.port in
    let place = c.in_ok-place.place in
    let found = c.in_ok-place.ensures in
    record {
      answer = accepted_answer b (retire port) (taken_off b.processor b.tally.capacity 0 book.tasks port place found);
      book = book_left b.processor b.tally.capacity 0 book.tasks port place found c.without-self.result c.without-self.ensures;
    }
