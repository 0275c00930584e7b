-- Tasks at other ports have matched rows in a periodic book.
use Rattle.std.proofs.Common.{◌≡◌, ℕ, ◌+◌, true, List, [], ◌∷◌, map, Some, None, Option, refl, subst}
use Rattle.std.proofs.lemmas.Bool.{and_parts}
use Rattle.board.specs.Processors.{ProcessorFigures}
use Rattle.board.specs.Tasks.{FiguresOfTask}
use Rattle.cost.specs.Kinds.{Meaning}
use Rattle.cost.specs.Sums.{Reordered, no_items, same_first, first_two, by_way_of}
use Rattle.plans.specs.Choices.{Row}
use Rattle.plans.specs.Boards.{standing, row, joint_period, periodic_limit, periodic_rows}
use Rattle.plans.specs.Promises.{Alike, Matched, no_rows, one_more, swapped, in_turn}
use Rattle.tally.specs.Tally.{Tally}
use Rattle.tally.specs.Boards.{periodic_board, periodic_task, each_task, periodic_tasks, Match}
use Rattle.tally.proofs.Periods.{joint_reordered}

module _ {C : Type 0} (k : Meaning C) (p : ProcessorFigures) (h limit : ℕ) where
  -- the rows of the tasks from a port on
  abbrev rows : ℕ → List (Option FiguresOfTask) → List (Row C)
  rows port ts = map (λ s. row k p h limit s) (standing port ts)

  at_other_port : (m n : ℕ) (t : FiguresOfTask) → Alike (row k p h limit (record { port = m; task = t })) (row k p h limit (record { port = n; task = t }))
  at_other_port m n t = record { limit = refl; offers = refl }

  shifted : (ts : List (Option FiguresOfTask)) (m n : ℕ) → Matched (rows m ts) (rows n ts)
  shifted [] m n = no_rows
  shifted (None ∷ ts) m n = shifted ts (m + 1) (n + 1)
  shifted (Some t ∷ ts) m n = one_more (at_other_port m n t) (shifted ts (m + 1) (n + 1))

  pub rows_matched : {ts us : List (Option FiguresOfTask)} → Reordered ts us → (m n : ℕ) → Matched (rows m ts) (rows n us)
  rows_matched no_items m n = no_rows
  rows_matched (same_first {x = None} r) m n = rows_matched r (m + 1) (n + 1)
  rows_matched (same_first {x = Some t} r) m n = one_more (at_other_port m n t) (rows_matched r (m + 1) (n + 1))
  rows_matched (first_two {x = None} {y = None} {xs = ts}) m n = shifted ts (m + 1 + 1) (n + 1 + 1)
  rows_matched (first_two {x = None} {y = Some u} {xs = ts}) m n = one_more (at_other_port (m + 1) n u) (shifted ts (m + 1 + 1) (n + 1 + 1))
  rows_matched (first_two {x = Some t} {y = None} {xs = ts}) m n = one_more (at_other_port m (n + 1) t) (shifted ts (m + 1 + 1) (n + 1 + 1))
  rows_matched (first_two {x = Some t} {y = Some u} {xs = ts}) m n =
      in_turn (swapped refl) (one_more (at_other_port (m + 1) n u) (one_more (at_other_port m (n + 1) t) (shifted ts (m + 1 + 1) (n + 1 + 1))))
  rows_matched (by_way_of r s) m n = in_turn (rows_matched r m m) (rows_matched s m n)

pub periodic_matched : {C : Type 0} (k : Meaning C) (p : ProcessorFigures) (t u : Tally) → Match t u → periodic_tasks p t.tasks ≡ true → Matched (periodic_board k p t) (periodic_board k p u)
periodic_matched {C} k p t u m fit =
    let h = joint_period (standing 1 t.tasks) in
    let same : h ≡ joint_period (standing 1 u.tasks) = joint_reordered p t.tasks u.tasks m.tasks (and_parts (each_task (periodic_task p) t.tasks) _ fit).0 1 1 in
    subst (λ c. Matched (periodic_board k p t) (periodic_rows k p c (standing 1 u.tasks))) m.capacity
    (subst (λ n. Matched (periodic_board k p t) (map (λ s. row k p n (periodic_limit n t.capacity) s) (standing 1 u.tasks))) same (rows_matched k p h (periodic_limit h t.capacity) m.tasks 1 1))
