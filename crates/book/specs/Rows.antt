-- Rows as the planner's code takes them, at no price yet.
--   PlainRow                  a port, its limit in µs, and for each of 8 levels the measure of the task, if that level is offered
--   measures_of os            the measures of a row's offers
--   plain_row r               a row of the planner's
--   standing_row p h limit s  the row of a standing task under a hyperperiod
--   periodic_plain_rows p c ss  the rows of periodic tasks at a capacity of c thousandths
--   sporadic_plain_rows p t ss  the rows of sporadic tasks at the time t of the clock in µs
use Rattle.std.specs.Prelude.{ℕ, List, map, Option}
use Rattle.std.specs.List.{range_with_len}
use Rattle.std.specs.Option.{option_map}
use Rattle.board.specs.declared.measures.Measure.{Measure}
use Rattle.board.specs.declared.offers.Offer.{Offer}
use Rattle.board.specs.Processors.{ProcessorFigures}
use Rattle.board.specs.Measures.{offer}
use Rattle.plans.specs.Boards.{Standing, due_of, by_deadline, joint_period, periodic_limit, sporadic_limit}
use Rattle.fronts.specs.declared.row.Row.{Row}

pub record PlainRow : Type 0 where
  pub port : ℕ
  pub limit : ℕ
  pub measures : List (Option Measure)

abbrev pub measures_of : List (Option Offer) → List (Option Measure)
measures_of os = map (option_map (λ o. o.measure)) os

abbrev pub plain_row : Row → PlainRow
plain_row r = record { port = r.port; limit = r.limit; measures = measures_of r.offers }

abbrev pub standing_row : ProcessorFigures → ℕ → ℕ → Standing → PlainRow
standing_row p h limit s = record { port = s.port; limit = limit; measures = map (offer p s.task h) (range_with_len 0 8) }

abbrev pub periodic_plain_rows : ProcessorFigures → ℕ → List Standing → List PlainRow
periodic_plain_rows p capacity ss = let h = joint_period ss in map (λ s. standing_row p h (periodic_limit h capacity) s) ss

abbrev pub sporadic_plain_rows : ProcessorFigures → ℕ → List Standing → List PlainRow
sporadic_plain_rows p clock ss = map (λ s. standing_row p 1 (sporadic_limit (due_of s) clock) s) (by_deadline ss)
