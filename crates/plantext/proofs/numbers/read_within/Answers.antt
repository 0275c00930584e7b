use Rattle.std.proofs.Common.{sym, arith}
use Rattle.plantext.proofs.Reading.{digit_fits, plain_short}
use Rattle.plantext.proofs.numbers.read_within.Goals as goal

pub overflow_mul-n : goal.overflow_mul-n
overflow_mul-n c =
    let short = plain_short c.args.most c.args.digits.now (sym c.if-not-is_plain.ensures) in
    let small = digit_fits c.loop-b.n c.loop-b.b-index (omega arith) c.loop-b.invariant.0 in
    omega arith

pub overflow_add-n : goal.overflow_add-n
overflow_add-n c =
    let short = plain_short c.args.most c.args.digits.now (sym c.if-not-is_plain.ensures) in
    let small = digit_fits c.loop-b.n c.loop-b.b-index (omega arith) c.loop-b.invariant.0 in
    omega arith
