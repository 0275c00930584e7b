use Rattle.std.proofs.Common.{◌≡◌, ◌+◌}
use Rattle.board.specs.Measures.{standby_sum}
use Rattle.board.proofs.offers.makes.draw.Given as goal

abbrev pub invariant-loop-power : goal.invariant-loop-power
invariant-loop-power l =
    l.draw + standby_sum l.power-iterator.a.rest.now l.power-iterator.b.rest.now ≡ l.initial.draw + standby_sum l.standby l.shares
