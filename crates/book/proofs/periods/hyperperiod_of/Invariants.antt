use Rattle.std.proofs.Common.{◌≡◌, length, take, drop}
use Rattle.board.specs.Periods.{hyperperiod}
use Rattle.tally.proofs.Periods.{dues}
use Rattle.book.specs.Tasks.{figures_of}
use Rattle.book.proofs.periods.hyperperiod_of.Given as goal

-- the hyperperiod of the tasks behind those that are left, which are the first ones
abbrev pub invariant-loop-standing : goal.invariant-loop-standing
invariant-loop-standing l =
    let rest = l.standing-iterator.iter.rest.now in
    (l.joint.micros ≡ hyperperiod (dues (drop (length rest) (figures_of l.tasks)))) × (rest ≡ take (length rest) l.tasks)
