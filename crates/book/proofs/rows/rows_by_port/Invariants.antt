use Rattle.std.proofs.Common.{◌≡◌, map, take}
use Rattle.board.specs.Views.{processor_figures}
use Rattle.plans.specs.Boards.{standing, joint_period}
use Rattle.fronts.specs.Views.{listed_rows}
use Rattle.book.specs.Tasks.{figures_of}
use Rattle.book.specs.Rows.{plain_row, standing_row}
use Rattle.book.proofs.rows.rows_by_port.Given as goal

-- the rows of the tasks of the first ports
abbrev pub invariant-loop-place : goal.invariant-loop-place
invariant-loop-place l =
    map plain_row (listed_rows l.rows)
    ≡ map (standing_row (processor_figures l.processor) (joint_period (standing 1 (figures_of l.tasks))) l.limit) (standing 1 (take l.place (figures_of l.tasks)))
