use Rattle.std.proofs.Common.{◌≡◌, ◌+◌, ◌-◌, ◌≤◌, length, length-drop, sym, ap, ◌∙◌, arith}
use Rattle.board.specs.Processors.{ProcessorFigures}
use Rattle.jobtext.specs.Books.{JobBook, book_view}
use Rattle.jobtext.specs.Places.{place, call_figures}
use Rattle.jobtext.proofs.Making.{same_processor}
use Rattle.jobtext.proofs.Advancing.{extent, call_reached}
use Rattle.jobtext.proofs.jobs.turns.take_call.Goals as goal

pub overflow_sub-stage : goal.overflow_sub-stage
overflow_sub-stage g c =
    let going = c.args.going.now in
    let start : extent (place c.behind-reader.result) ≡ going.line + (length c.args.text.now - going.at) = ap extent c.behind-reader.ensures ∙ ap (λ n. going.line + n) (length-drop going.at c.args.text.now) in
    let end : extent (place c.call.new.self) ≤ extent (place c.behind-reader.result) = call_reached c.rule.result going.devices (place c.behind-reader.result) (place c.call.new.self) (call_figures c.rule.result c.in-Ok.call) c.in-Ok.ensures.call in
    omega (arith, c.bytes_left.ensures, c.call.new.self.some, going.few, c.requires.inside)

pub invariant_of-stage : goal.invariant_of-stage
invariant_of-stage g c =
    let going = c.args.going.now in
    let start : extent (place c.behind-reader.result) ≡ going.line + (length c.args.text.now - going.at) = ap extent c.behind-reader.ensures ∙ ap (λ n. going.line + n) (length-drop going.at c.args.text.now) in
    let end : extent (place c.call.new.self) ≤ extent (place c.behind-reader.result) = call_reached c.rule.result going.devices (place c.behind-reader.result) (place c.call.new.self) (call_figures c.rule.result c.in-Ok.call) c.in-Ok.ensures.call in
    let b = book_view going.book in
    record {
      some = omega (arith, c.line_number.ensures, c.call.new.self.some);
      few = omega (arith, c.line_number.ensures, c.bytes_left.ensures, c.call.new.self.some, going.few, c.requires.inside);
      all_devices =
          going.all_devices
          ∙ sym (ap (λ (p : ProcessorFigures). length p.standby) (same_processor g.K.Kind.meaning (length c.args.list.now) b (call_figures b.rule c.in-Ok.call)))
          ∙ sym (ap (λ (x : JobBook). length x.figures.processor.standby) c.make-answer.ensures.keeps);
      few_devices = going.few_devices;
    }
