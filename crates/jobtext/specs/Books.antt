-- The book of a job, of either rule.
--   JobBook           a rule, and the figures of a book of that rule
--   book_view b       what the book of a job stands for
--   booked rule p     a new book of the rule
use Rattle.board.specs.Processors.{ProcessorFigures}
use Rattle.tally.specs.Tally.{new_tally}
use Rattle.tally.specs.Books.{BookFigures, book_figures}
use Rattle.book.specs.Views.{periodic_figures, sporadic_figures}
use Rattle.jobtext.specs.declared.books.Book.{Book}
use Rattle.jobtext.specs.declared.books.Book.TheVariants as books
use Rattle.jobtext.specs.declared.headers.Rule.{Rule}
use Rattle.jobtext.specs.declared.headers.Rule.TheVariants.{Periodic, Sporadic}

pub record JobBook : Type 0 where
  pub rule : Rule
  pub figures : BookFigures

abbrev pub job_book : Rule → BookFigures → JobBook
job_book rule b = record { rule = rule; figures = b }

abbrev pub booked : Rule → ProcessorFigures → JobBook
booked rule p = job_book rule (book_figures p new_tally)

abbrev pub book_view : Book → JobBook
book_view (books.Periodic b) = job_book Periodic (periodic_figures b)
book_view (books.Sporadic b) = job_book Sporadic (sporadic_figures b)
