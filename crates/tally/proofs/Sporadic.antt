-- Tasks at other ports have matched rows in a sporadic book.
use Rattle.std.proofs.Common.{ℕ, List, map, ap, subst}
use Rattle.board.specs.Processors.{ProcessorFigures}
use Rattle.board.specs.Tasks.{FiguresOfTask}
use Rattle.cost.specs.Kinds.{Meaning}
use Rattle.plans.specs.Choices.{Row}
use Rattle.plans.specs.Boards.{Standing, standing, due_time, due_of, offers, row, sporadic_limit, sporadic_rows}
use Rattle.plans.specs.Promises.{Matched, no_rows, one_more, swapped, in_turn}
use Rattle.tally.specs.Tally.{Tally}
use Rattle.tally.specs.Boards.{sporadic_board, Match}
use Rattle.tally.proofs.Deadlines.{Similar, nothing, more, turned, onward, by_deadline_similar}

module _ {C : Type 0} (k : Meaning C) (p : ProcessorFigures) (clock : ℕ) where
  abbrev sporadic_row : Standing → Row C
  sporadic_row s = row k p 1 (sporadic_limit (due_of s) clock) s

  rows_matched : {a b : List Standing} → Similar a b → Matched (map sporadic_row a) (map sporadic_row b)
  rows_matched nothing = no_rows
  rows_matched (more e r) = one_more (record { limit = ap (λ (t : FiguresOfTask). sporadic_limit (due_time t.due) clock) e; offers = ap (λ t. offers k p t 1) e }) (rows_matched r)
  rows_matched (turned e) = swapped (ap (λ d. sporadic_limit d clock) e)
  rows_matched (onward r q) = in_turn (rows_matched r) (rows_matched q)

pub sporadic_matched : {C : Type 0} (k : Meaning C) (p : ProcessorFigures) (t u : Tally) → Match t u → Matched (sporadic_board k p t) (sporadic_board k p u)
sporadic_matched k p t u m =
    subst (λ c. Matched (sporadic_board k p t) (sporadic_rows k p c (standing 1 u.tasks))) m.clock (rows_matched k p t.clock (by_deadline_similar m.tasks 1 1))
