use Rattle.std.proofs.Common.{◌≡◌, map, take}
use Rattle.board.specs.Views.{processor_figures}
use Rattle.plans.specs.Boards.{standing, due_of, by_deadline, sporadic_limit}
use Rattle.fronts.specs.Views.{listed_rows}
use Rattle.book.specs.Tasks.{figures_of}
use Rattle.book.specs.Rows.{plain_row, standing_row}
use Rattle.book.proofs.rows.sporadic_rows.Given as goal

-- the rows of the first tasks, by deadline
abbrev pub invariant-loop-turn : goal.invariant-loop-turn
invariant-loop-turn l =
    map plain_row (listed_rows l.rows)
    ≡ map (λ s. standing_row (processor_figures l.processor) 1 (sporadic_limit (due_of s) l.clock) s) (take l.turn-index (by_deadline (standing 1 (figures_of l.tasks))))
