-- What is promised over every life of a book. A rule is given by the rows that it makes of a book, `rows_of`: `periodic_rows_of` or
-- `sporadic_rows_of`.
--   lived p calls                the book of the processor p after the calls, from a new book on: its tally is the fold of them
--   asked_book b q               the book as the question takes it: a trial is at its own capacity
--   asked_able q buffer          planning is able to: the levels buffer has 48 bytes or more, and a trial's capacity is in range
--   asked_answer b q room buffer     what the book answers to the question, with a list of `room` places and a levels buffer of `buffer` bytes
--   Life p calls q lent book r left  the life of a book of p: it follows the calls in what is `lent` to it, and is then asked.
--       stands      the book is what the tally says of the calls
--       followed    what the calls left is what was `found` by the last plan
--       places, bytes   list and levels buffer were then as long as those that are lent
--       answered    it answers r as defined on that tally
--       promised    r has all that is promised of a plan
--       list, levels    the last plan left the list and the levels buffer as planning does
use Rattle.std.specs.Prelude.{◌≡◌, ℕ, ◌≤◌, true, List, map, length, Result}
use Rattle.board.specs.declared.faults.Fault.{Fault}
use Rattle.board.specs.Processors.{ProcessorFigures, between}
use Rattle.cost.specs.Kinds.{Meaning}
use Rattle.plans.specs.declared.figures.Figures.{Figures}
use Rattle.plans.specs.Choices.{Row}
use Rattle.plans.specs.Plans.{planned, list_after, levels_after}
use Rattle.tally.specs.Tally.{new_tally, trial}
use Rattle.tally.specs.Refusals.{refused}
use Rattle.tally.specs.Steps.{life}
use Rattle.tally.specs.Books.{BookFigures, book_figures}
use Rattle.tally.specs.Plans.{at_capacity, unless_declined}
use Rattle.tally.specs.Lent.{Lent, LentCall, Leaves}
use Rattle.tally.specs.Promises.{Promised}
use Rattle.lives.specs.declared.calls.Question.{Question}
use Rattle.lives.specs.declared.calls.Question.TheVariants.{Plan, Trial}

abbrev pub lived : ProcessorFigures → List LentCall → BookFigures
lived p calls = book_figures p (life p (map (λ c. c.call) calls))

abbrev pub asked_book : BookFigures → Question → BookFigures
asked_book b Plan = b
asked_book b (Trial capacity) = at_capacity b capacity

abbrev pub asked_able : Question → ℕ → Type 0
asked_able Plan buffer = 48 ≤ buffer
asked_able (Trial capacity) buffer = (48 ≤ buffer) × (between 1 1000 capacity ≡ true)

module _ {C : Type 0} (k : Meaning C) (rows_of : BookFigures → List (Row C)) where
  abbrev pub asked_answer : BookFigures → Question → ℕ → ℕ → Result (Figures C) Fault
  asked_answer b Plan room buffer = planned k room buffer (rows_of b)
  asked_answer b (Trial capacity) room buffer = unless_declined (refused b.processor b.tally (trial capacity)) (planned k room buffer (rows_of (at_capacity b capacity)))

  pub record Life (p : ProcessorFigures) (calls : List LentCall) (q : Question) (lent : Lent C) (book : BookFigures) (r : Result (Figures C) Fault) (left : Lent C) : Type 0 where
    pub stands : book ≡ lived p calls
    pub found : Lent C
    pub followed : Leaves k rows_of (book_figures p new_tally) calls lent found
    pub places : length found.list ≡ length lent.list
    pub bytes : length found.levels ≡ length lent.levels
    pub answered : r ≡ asked_answer (lived p calls) q (length lent.list) (length lent.levels)
    pub promised : Promised k (rows_of (asked_book (lived p calls) q)) (asked_able q (length lent.levels)) r left.levels
    pub list : left.list ≡ list_after k (rows_of (asked_book (lived p calls) q)) r found.list left.list
    pub levels : left.levels ≡ levels_after k (rows_of (asked_book (lived p calls) q)) r found.levels
