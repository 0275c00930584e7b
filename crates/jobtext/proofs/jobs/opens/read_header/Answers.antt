use Rattle.std.proofs.Common.{◌≡◌, ◌+◌, ◌≤◌, length, sym, ap, ◌∙◌, arith, length-take}
use Rattle.jobtext.specs.Books.{JobBook}
use Rattle.jobtext.specs.Places.{place, header_figures}
use Rattle.jobtext.proofs.Advancing.{extent, header_reached}
use Rattle.jobtext.proofs.jobs.opens.read_header.Goals as goal

pub overflow_sub-result : goal.overflow_sub-result
overflow_sub-result c =
    let start : extent (place c.behind-reader.result) ≡ 1 + length c.args.text.now = ap extent c.behind-reader.ensures in
    let end : extent (place c.header.new.self) ≤ extent (place c.behind-reader.result) = header_reached (place c.behind-reader.result) (place c.header.new.self) (header_figures c.in_ok-header.header) c.in_ok-header.ensures in
    omega (arith, c.header.new.self.some, c.bytes_left.ensures)

pub invariant_of-result : goal.invariant_of-result
invariant_of-result c =
    let start : extent (place c.behind-reader.result) ≡ 1 + length c.args.text.now = ap extent c.behind-reader.ensures in
    let end : extent (place c.header.new.self) ≤ extent (place c.behind-reader.result) = header_reached (place c.behind-reader.result) (place c.header.new.self) (header_figures c.in_ok-header.header) c.in_ok-header.ensures in
    let p = c.in_ok-processor.processor in
    record {
      some = omega (arith, c.header.new.self.some, c.line_number-2.ensures);
      few = omega (arith, c.header.new.self.some, c.line_number-2.ensures, c.bytes_left.ensures);
      all_devices = ap length c.standby.ensures ∙ sym (ap (λ (b : JobBook). length b.figures.processor.standby) c.of.ensures);
      few_devices = omega (arith, ap length c.standby.ensures, length-take p.standby.count p.standby.places, p.standby.few);
    }
