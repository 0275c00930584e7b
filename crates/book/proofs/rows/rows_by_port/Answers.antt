use Rattle.std.proofs.Common.{◌≡◌, ◌<◌, map, length, take, ap, ◌∙◌, arith}
use Rattle.std.specs.Option.{option_map}
use Rattle.std.proofs.lemmas.List.{length-map, take_all}
use Rattle.board.specs.Views.{processor_figures, task_figures}
use Rattle.plans.specs.Boards.{standing, joint_period}
use Rattle.fronts.specs.declared.rows.Rows.{Rows}
use Rattle.fronts.specs.Views.{listed_rows}
use Rattle.book.specs.Tasks.{figures_of}
use Rattle.book.specs.Rows.{plain_row, standing_row}
use Rattle.book.proofs.ByPort.{past_none, past_some}
use Rattle.book.proofs.rows.rows_by_port.Goals as goal
use Rattle.book.proofs.rows.rows_by_port.Goals.{in-Some, in_default}

pub loop-place-preserved : goal.loop-place-preserved
loop-place-preserved c =
    let tasks = c.args.tasks.now in
    let i = c.loop-place.place in
    let o = c.index-tasks-place.result in
    let lt : i < length tasks = omega (arith, c.told-tasks) in
    elim c.match-entry.branch [
      | in-Some w ↦ ap (λ (r : Rows). map plain_row (listed_rows r)) w.rows-is ∙ past_some c.args.processor.now tasks c.args.limit i o lt c.index-tasks-place.is (listed_rows c.loop-place.rows) c.loop-place.invariant c.told-tasks c.requires.fit w.in-Some.task (c.index-tasks-place.is ∙ w.in-Some.is) c.args.hyperperiod.now.micros c.requires.joint w.offers-offers.result w.offers-offers.ensures w.push.result (listed_rows w.push.new.self) w.push.ensures.answer w.push.ensures.rows
      | in_default w ↦ ap (λ (r : Rows). map plain_row (listed_rows r)) w.rows-is ∙ past_none c.args.processor.now tasks c.args.limit i o lt c.index-tasks-place.is (listed_rows c.loop-place.rows) c.loop-place.invariant (c.index-tasks-place.is ∙ w.in_default.is)
    ]

pub returns : goal.returns
returns c =
    let tasks = c.args.tasks.now in
    let ts = figures_of tasks in
    let e : take c.loop-place.place ts ≡ ts = take_all c.loop-place.place ts (omega (arith, c.told-tasks, length-map tasks (option_map task_figures))) in
    c.loop-place.invariant ∙ ap (λ xs. map (standing_row (processor_figures c.args.processor.now) (joint_period (standing 1 ts)) c.args.limit) (standing 1 xs)) e
