-- The faults that a job call answers.
--   job_numbered f    the number of the fault f, the line of the job text that it is about, or 0, and the port, or 0
use Rattle.std.specs.Prelude.{ℕ}
use Rattle.board.specs.Faults.{numbered}
use Rattle.plantext.specs.declared.faults.JobFault.{JobFault}
use Rattle.plantext.specs.declared.faults.JobFault.TheVariants.{LongText, ShortAnswer, TextEnds, WrongKey, BadValue, Refused}

pub record JobNumbered : Type 0 where
  pub number : ℕ
  pub line : ℕ
  pub port : ℕ

abbrev at : ℕ → ℕ → ℕ → JobNumbered
at number line port = record { number = number; line = line; port = port }

-- the faults of the text have numbers of their own; a fault of the book keeps its number and port
abbrev pub job_numbered : JobFault → JobNumbered
job_numbered LongText = at 11 0 0
job_numbered ShortAnswer = at 12 0 0
job_numbered (TextEnds line) = at 13 line 0
job_numbered (WrongKey line) = at 14 line 0
job_numbered (BadValue line) = at 15 line 0
job_numbered (Refused fault line) = at (numbered fault).number line (numbered fault).place
