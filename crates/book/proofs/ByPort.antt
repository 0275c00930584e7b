-- The rows of a periodic book, port by port.
use Rattle.std.proofs.Common.{◌≡◌, ℕ, ◌+◌, ◌<◌, Bool, true, cond, ◌&&◌, ltb, List, [], ◌∷◌, ◌++◌, map, length, get_or, take, Some, None, Option, sym, ap, ◌∙◌, arith}
use Rattle.std.specs.List.{range_with_len}
use Rattle.std.specs.Option.{option_map}
use Rattle.std.proofs.lemmas.List.{length-map}
use Rattle.std.proofs.lemmas.Bool.{and_from}
use Rattle.board.specs.declared.measures.Measure.{Measure}
use Rattle.board.specs.declared.offers.Offer.{Offer}
use Rattle.board.specs.declared.processors.Processor.{Processor}
use Rattle.board.specs.declared.tasks.Task.{Task}
use Rattle.board.specs.Processors.{ProcessorFigures, processor_fits}
use Rattle.board.specs.Tasks.{FiguresOfTask}
use Rattle.board.specs.Measures.{offer_if}
use Rattle.board.specs.Views.{processor_figures, task_figures}
use Rattle.plans.specs.Boards.{Standing, standing, joint_period}
use Rattle.tally.specs.Boards.{periodic_tasks}
use Rattle.tally.proofs.Measures.{periodic_measured, periodic_belongs}
use Rattle.fronts.specs.declared.row.Row.{Row}
use Rattle.fronts.specs.Rows.{row_fits}
use Rattle.book.specs.Tasks.{figures_of}
use Rattle.book.specs.Rows.{PlainRow, measures_of, plain_row, standing_row}
use Rattle.book.proofs.Adding.{few_levels, row_added}
use Rattle.book.proofs.Listing.{all_offers, none_more, here, some_more, stands_here, few_before, apart_before}

pub processor_good : (p : Processor) → processor_fits (processor_figures p) ≡ true
processor_good p = and_from _ _ p.levels_fit p.standby_fits

module _ (processor : Processor) (tasks : List (Option Task)) (limit : ℕ) where
  abbrev p : ProcessorFigures
  p = processor_figures processor

  abbrev ts : List (Option FiguresOfTask)
  ts = figures_of tasks

  abbrev h : ℕ
  h = joint_period (standing 1 ts)

  abbrev rows_of_first : ℕ → List PlainRow
  rows_of_first n = map (standing_row p h limit) (standing 1 (take n ts))

  module _ (i : ℕ) (o : Option Task) (lt : i < length tasks) (is : o ≡ get_or tasks i o) (rs : List Row) (inv : map plain_row rs ≡ rows_of_first i) where
    pub past_none : o ≡ None → map plain_row rs ≡ rows_of_first (i + 1)
    past_none e = inv ∙ ap (map (standing_row p h limit)) (sym (none_more tasks i o lt is e))

    module _ (ports : length tasks ≡ 48) (fit : periodic_tasks p ts ≡ true) (t : Task) (e : o ≡ Some t) (hyperperiod : ℕ) (joint : hyperperiod ≡ h) (offers : List (Option Offer)) (offered : measures_of offers ≡ map (offer_if p (task_figures t) hyperperiod) (range_with_len 0 8)) where
      abbrev row : Row
      row = record { port = i + 1; limit = limit; offers = offers }

      abbrev s : Standing
      s = here tasks i o lt is t e

      row_is : plain_row row ≡ standing_row p h limit s
      row_is =
          ap (λ (ms : List (Option Measure)). record { port = i + 1; limit = limit; measures = ms })
          (offered ∙ ap (λ n. map (offer_if p (task_figures t) n) (range_with_len 0 8)) joint ∙ all_offers p (task_figures t) h (periodic_belongs p ts s (stands_here tasks i o lt is t e) fit) (range_with_len 0 8))

      pub past_some : (b : Bool) (after : List Row) → b ≡ (ltb (length rs) 48 && row_fits rs row) → after ≡ cond b (rs ++ (row ∷ [])) rs → map plain_row after ≡ rows_of_first (i + 1)
      past_some b after answer pushed =
          row_added p h (λ s. limit) (few_levels p (processor_good processor)) rs (standing 1 (take i ts)) inv row s row_is (omega (arith, few_before tasks i o lt is)) (omega arith) (omega arith) (apart_before tasks i o lt is)
          (periodic_measured p (processor_good processor) ts (omega (arith, length-map tasks (option_map task_figures))) fit s (stands_here tasks i o lt is t e)) b after answer pushed
          ∙ ap (map (standing_row p h limit)) (sym (some_more tasks i o lt is t e))
