use Rattle.std.proofs.Common.{◌≡◌, ◌^◌, ◌<◌, drop}
use Rattle.plantext.specs.Numbers.{read_on}
use Rattle.plantext.proofs.numbers.read_within.Given as goal

abbrev pub invariant-loop-b : goal.invariant-loop-b
invariant-loop-b l = (l.n < 10 ^ l.b-index) × (read_on l.n (drop l.b-index l.digits) ≡ read_on 0 l.digits)
