-- What the values of this crate stand for.
--   periodic_figures b     a periodic book by its figures; its clock stays at 0
--   periodic_view r        the same of an answer
--   sporadic_figures b     a sporadic book by its figures; its capacity stays at 1,000
--   sporadic_view r        the same of an answer
use Rattle.std.specs.Prelude.{Ok, Err, Result}
use Rattle.board.specs.declared.faults.Fault.{Fault}
use Rattle.board.specs.Views.{processor_figures}
use Rattle.book.specs.declared.periodic.PeriodicBook.{PeriodicBook}
use Rattle.book.specs.declared.sporadic.SporadicBook.{SporadicBook}
use Rattle.book.specs.Tasks.{figures_of}
use Rattle.tally.specs.Books.{BookFigures, book_figures}

abbrev pub periodic_figures : PeriodicBook → BookFigures
periodic_figures b = book_figures (processor_figures b.processor) (record { capacity = b.capacity.thousandths; clock = 0; tasks = figures_of b.tasks })

abbrev pub periodic_view : Result PeriodicBook Fault → Result BookFigures Fault
periodic_view (Ok b) = Ok (periodic_figures b)
periodic_view (Err f) = Err f

abbrev pub sporadic_figures : SporadicBook → BookFigures
sporadic_figures b = book_figures (processor_figures b.processor) (record { capacity = 1000; clock = b.clock; tasks = figures_of b.tasks })

abbrev pub sporadic_view : Result SporadicBook Fault → Result BookFigures Fault
sporadic_view (Ok b) = Ok (sporadic_figures b)
sporadic_view (Err f) = Err f
