use Rattle.std.proofs.Common.{◌≡◌, ◌-◌, length}
use Rattle.shortlist.specs.Lists.{listed}
use Rattle.jobtext.specs.Lines.{Place, Reading, repeated}
use Rattle.jobtext.specs.Places.{place, ReadsAs}
use Rattle.jobtext.proofs.Repeating.{following}
use Rattle.jobtext.proofs.readers.Reader.repeated.Given as goal

abbrev pub invariant-loop : goal.invariant-loop
invariant-loop g l =
    (length (listed l.list) ≡ l.counter)
    × ((means : Place → Reading g.row.T.Denot) → ReadsAs (goal.F-post g l.read) means →
    following (listed l.list) (repeated means (l.count - l.counter) (place l.self)) ≡ repeated means l.count (place l.initial.self))
