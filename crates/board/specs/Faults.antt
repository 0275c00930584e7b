-- The faults that a book answers.
--   numbered f    the number of the fault f, and its place: a port, or 0
use Rattle.std.specs.Prelude.{ℕ}
use Rattle.board.specs.declared.faults.Fault.{Fault}
use Rattle.board.specs.declared.faults.Fault.TheVariants.{BadProcessor, NoSuchPort, PortTaken, PortFree, BadFigure, BadTime, TooSlow, LongHyperperiod, BadSetting, ShortBuffer, NoneFits, ListFull}

pub record Numbered : Type 0 where
  pub number : ℕ
  pub place : ℕ

abbrev at : ℕ → ℕ → Numbered
at number place = record { number = number; place = place }

-- each fault has its number; those about a port have it as their place
abbrev pub numbered : Fault → Numbered
numbered BadProcessor = at 21 0
numbered (NoSuchPort port) = at 22 port
numbered (PortTaken port) = at 23 port
numbered (PortFree port) = at 24 port
numbered (BadFigure port) = at 25 port
numbered (BadTime port) = at 26 port
numbered (TooSlow port) = at 27 port
numbered (LongHyperperiod port) = at 28 port
numbered BadSetting = at 29 0
numbered ShortBuffer = at 31 0
numbered (NoneFits port) = at 32 port
numbered (ListFull port) = at 33 port
