-- The rows of a sporadic book, turn by turn.
use Rattle.std.proofs.Common.{◌≡◌, ℕ, ◌+◌, ◌-◌, ◌<◌, ◌≤◌, Bool, true, cond, ◌&&◌, ltb, List, [], ◌∷◌, ◌++◌, map, length, get_or, take, Some, None, Option, sym, ap, ◌∙◌, arith}
use Rattle.std.specs.List.{range_with_len}
use Rattle.std.specs.Option.{option_map}
use Rattle.std.proofs.lemmas.List.{length-map, length-take-le, get_or-map, take_more, take_all}
use Rattle.std.proofs.lemmas.Bool.{and_from, le-leb, cond-true}
use Rattle.board.specs.declared.dues.Due.TheVariants.{Deadline}
use Rattle.board.specs.declared.measures.Measure.{Measure}
use Rattle.board.specs.declared.offers.Offer.{Offer}
use Rattle.board.specs.declared.processors.Processor.{Processor}
use Rattle.board.specs.declared.tasks.Task.{Task}
use Rattle.board.specs.Processors.{ProcessorFigures}
use Rattle.board.specs.Tasks.{FiguresOfTask}
use Rattle.board.specs.Measures.{offer_if}
use Rattle.board.specs.Views.{processor_figures, task_figures}
use Rattle.plans.specs.Choices.{In}
use Rattle.plans.specs.Boards.{Standing, standing, due_of, by_deadline, sporadic_limit}
use Rattle.plans.proofs.Members.{none-some, same_some}
use Rattle.tally.specs.Refusals.{a_port}
use Rattle.tally.specs.Boards.{sporadic_tasks}
use Rattle.tally.proofs.Standings.{port_standing, at_standing, in_getD, by_deadline_out, distinct_standing, distinct_by_deadline, distinct_before}
use Rattle.tally.proofs.Measures.{sporadic_measured, sporadic_belongs}
use Rattle.fronts.specs.declared.row.Row.{Row}
use Rattle.fronts.specs.Rows.{row_fits}
use Rattle.book.specs.declared.turns.Turn.{Turn}
use Rattle.book.specs.Tasks.{figures_of, task_at_port}
use Rattle.book.specs.Rows.{PlainRow, measures_of, plain_row, standing_row}
use Rattle.book.specs.Turns.{turn_of}
use Rattle.book.proofs.Placing.{figures_at}
use Rattle.book.proofs.Adding.{few_levels, row_added}
use Rattle.book.proofs.Listing.{all_offers}
use Rattle.book.proofs.ByPort.{processor_good}

-- what a list answers past its end
abbrev nobody : Standing
nobody = record { port = 0; task = record { cycles = 0; access = 0; shares = []; due = Deadline 0 } }

module _ (processor : Processor) (tasks : List (Option Task)) (clock : ℕ) where
  abbrev p : ProcessorFigures
  p = processor_figures processor

  abbrev ts : List (Option FiguresOfTask)
  ts = figures_of tasks

  abbrev sorted : List Standing
  sorted = by_deadline (standing 1 ts)

  abbrev limit_of : Standing → ℕ
  limit_of s = sporadic_limit (due_of s) clock

  abbrev rows_of_first : ℕ → List PlainRow
  rows_of_first n = map (λ s. standing_row p 1 (limit_of s) s) (take n sorted)

  module _ (turns : List Turn) (few : length turns ≤ 48) (are : turns ≡ map turn_of sorted) where
    all_turns : length turns ≡ length sorted
    all_turns = ap length are ∙ length-map sorted turn_of

    pub rows_of_all : (i : ℕ) → length turns ≤ i → rows_of_first i ≡ map (λ s. standing_row p 1 (limit_of s) s) sorted
    rows_of_all i h = ap (map (λ s. standing_row p 1 (limit_of s) s)) (take_all i sorted (omega (arith, all_turns)))

    module _ (ports : length tasks ≡ 48) (fit : sporadic_tasks p ts ≡ true) (i : ℕ) (lt : i < length turns) (e : Turn) where
      abbrev s : Standing
      s = get_or sorted i nobody

      within : i < length sorted
      within = omega (arith, all_turns)

      turn_is : get_or turns i e ≡ turn_of s
      turn_is = ap (λ us. get_or us i e) are ∙ get_or-map turn_of sorted i nobody e within

      stands : In s (standing 1 ts)
      stands = by_deadline_out (standing 1 ts) s (in_getD sorted i nobody within)

      range : (1 ≤ s.port) × (s.port ≤ 48)
      range = let r = port_standing ts 1 s stands in (omega arith, omega (arith, length-map tasks (option_map task_figures)))

      -- the task at the port is the one that stands there
      module _ (o : Option Task) (is : o ≡ task_at_port tasks (get_or turns i e).port) where
        task_is : option_map task_figures o ≡ Some s.task
        task_is =
            ap (option_map task_figures) (is ∙ ap (λ (t : Turn). task_at_port tasks t.port) turn_is ∙ cond-true (a_port s.port) (get_or tasks (s.port - 1) None) None (and_from _ _ (le-leb 1 s.port range.0) (le-leb s.port 48 range.1)))
            ∙ sym (figures_at tasks (s.port - 1)) ∙ at_standing ts 1 s stands

        pub past_none : o ≡ None → ⊥
        past_none n = none-some (ap (option_map task_figures) n) task_is

        module _ (t : Task) (some : o ≡ Some t) (rs : List Row) (inv : map plain_row rs ≡ rows_of_first i) (limit : ℕ) (limited : limit ≡ sporadic_limit (get_or turns i e).deadline clock) (once : ℕ) (one : once ≡ 1) (offers : List (Option Offer)) (offered : measures_of offers ≡ map (offer_if p (task_figures t) once) (range_with_len 0 8)) where
          abbrev row : Row
          row = record { port = (get_or turns i e).port; limit = limit; offers = offers }

          same : task_figures t ≡ s.task
          same = same_some (ap (option_map task_figures) some) task_is

          row_is : plain_row row ≡ standing_row p 1 (limit_of s) s
          row_is =
              ap (λ n. record { port = n; limit = limit; measures = measures_of offers }) (ap (λ (u : Turn). u.port) turn_is)
              ∙ ap (λ n. record { port = s.port; limit = n; measures = measures_of offers }) (limited ∙ ap (λ (u : Turn). sporadic_limit u.deadline clock) turn_is)
              ∙ ap (λ (ms : List (Option Measure)). record { port = s.port; limit = limit_of s; measures = ms })
              (offered ∙ ap (λ n. map (offer_if p (task_figures t) n) (range_with_len 0 8)) one ∙ ap (λ x. map (offer_if p x 1) (range_with_len 0 8)) same ∙ all_offers p s.task 1 (sporadic_belongs p ts s stands fit) (range_with_len 0 8))

          pub past_some : (b : Bool) (after : List Row) → b ≡ (ltb (length rs) 48 && row_fits rs row) → after ≡ cond b (rs ++ (row ∷ [])) rs → map plain_row after ≡ rows_of_first (i + 1)
          past_some b after answer pushed =
              row_added p 1 limit_of (few_levels p (processor_good processor)) rs (take i sorted) inv row s row_is (omega (arith, length-take-le i sorted (omega (arith, within)))) range.0 range.1
              (distinct_before sorted i nobody (distinct_by_deadline (standing 1 ts) (distinct_standing ts 1)) within) (sporadic_measured p (processor_good processor) ts fit s stands) b after answer pushed
              ∙ ap (map (λ s. standing_row p 1 (limit_of s) s)) (sym (take_more sorted i nobody within))
