-- A book by its figures, and what its calls answer and leave.
--   BookFigures          the processor and the tally
--   opened r             a new book of the processor, or the fault of its figures
--   answer b call        what the call answers: the first refusal that applies, if one does
--   after b call         the book after the call: the processor stays, and the tally makes one step
use Rattle.std.specs.Prelude.{Ok, Err, Result}
use Rattle.board.specs.declared.faults.Fault.{Fault}
use Rattle.board.specs.Processors.{ProcessorFigures}
use Rattle.tally.specs.Tally.{Tally, new_tally, Call}
use Rattle.tally.specs.Refusals as refusals
use Rattle.tally.specs.Steps.{step}

pub record BookFigures : Type 0 where
  pub processor : ProcessorFigures
  pub tally : Tally

abbrev pub book_figures : ProcessorFigures → Tally → BookFigures
book_figures p t = record { processor = p; tally = t }

abbrev pub opened : Result ProcessorFigures Fault → Result BookFigures Fault
opened (Ok p) = Ok (book_figures p new_tally)
opened (Err fault) = Err fault

abbrev pub answer : BookFigures → Call → Result Unit Fault
answer b call = refusals.answer b.processor b.tally call

abbrev pub after : BookFigures → Call → BookFigures
after b call = book_figures b.processor (step b.processor b.tally call)
