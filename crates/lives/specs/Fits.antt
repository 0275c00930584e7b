-- Each book is fit to be planned.
use Rattle.std.proofs.Common.{arith}
use Rattle.std.specs.Option.{option_map}
use Rattle.std.proofs.lemmas.List.{length-map}
use Rattle.board.specs.Views.{task_figures}
use Rattle.book.specs.declared.periodic.PeriodicBook.{PeriodicBook}
use Rattle.book.specs.declared.sporadic.SporadicBook.{SporadicBook}
use Rattle.book.specs.Views.{periodic_figures, sporadic_figures}
use Rattle.book.proofs.ByPort.{processor_good}
use Rattle.lives.specs.Rules.{Fit, periodic, sporadic}

pub periodic_fit : (book : PeriodicBook) → Fit periodic (periodic_figures book)
periodic_fit book = record { processor = processor_good book.processor; few = omega (arith, length-map book.tasks (option_map task_figures), book.ports); tasks = book.fit }

pub sporadic_fit : (book : SporadicBook) → Fit sporadic (sporadic_figures book)
sporadic_fit book = record { processor = processor_good book.processor; few = omega (arith, length-map book.tasks (option_map task_figures), book.ports); tasks = book.fit }
