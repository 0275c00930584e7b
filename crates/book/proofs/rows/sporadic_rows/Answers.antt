use Rattle.std.proofs.Common.{◌≤◌, map, length, ap, ◌∙◌, arith}
use Rattle.shortlist.proofs.Counting.{listed_few}
use Rattle.fronts.specs.declared.rows.Rows.{Rows}
use Rattle.fronts.specs.Views.{listed_rows}
use Rattle.book.specs.declared.turns.Turn.{Turn}
use Rattle.book.specs.Rows.{plain_row}
use Rattle.book.proofs.ByDeadline.{rows_of_all, past_none, past_some}
use Rattle.book.proofs.rows.sporadic_rows.Goals as goal
use Rattle.book.proofs.rows.sporadic_rows.Goals.{in-Some, in_default}

pub loop-turn-preserved : goal.loop-turn-preserved
loop-turn-preserved c =
    let turns = c.items-turn-items.result.now in
    let few : length turns ≤ 48 = omega (arith, ap length c.items-turn-items.ensures, listed_few c.turns_of.result) in
    let are = c.items-turn-items.ensures ∙ c.turns_of.ensures in
    let none : Turn = record { deadline = 0; port = 0 } in
    elim c.match-task_at.branch [
      | in-Some w ↦ ap (λ (r : Rows). map plain_row (listed_rows r)) w.rows-is ∙ past_some c.args.processor.now c.args.tasks.now c.args.clock turns few are c.told-tasks c.requires.fit c.loop-turn.turn-index c.loop-turn-test.true none c.task_at.result c.task_at.ensures w.in-Some.task w.in-Some.is (listed_rows c.loop-turn.rows) c.loop-turn.invariant w.sporadic_limit-limit.result w.sporadic_limit-limit.ensures c.of_none-once.result.micros c.of_none-once.ensures w.offers-offers.result w.offers-offers.ensures w.push.result (listed_rows w.push.new.self) w.push.ensures.answer w.push.ensures.rows
      | in_default w ↦ absurd (past_none c.args.processor.now c.args.tasks.now c.args.clock turns few are c.told-tasks c.requires.fit c.loop-turn.turn-index c.loop-turn-test.true none c.task_at.result c.task_at.ensures w.in_default.is)
    ]

pub returns : goal.returns
returns c =
    let turns = c.items-turn-items.result.now in
    let few : length turns ≤ 48 = omega (arith, ap length c.items-turn-items.ensures, listed_few c.turns_of.result) in
    c.loop-turn.invariant ∙ rows_of_all c.args.processor.now c.args.tasks.now c.args.clock turns few (c.items-turn-items.ensures ∙ c.turns_of.ensures) c.loop-turn.turn-index (omega arith)
