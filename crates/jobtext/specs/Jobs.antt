-- A job: a text is opened, and then its calls are taken one at a time.
--   longest_text         a job text has at most 16,384 bytes
--   Stage                how far a job has come
--   read_of text q       how many bytes of the text stand before the place
--   start text           the place before the first line
--   Opening              what a text is opened as: the kind of its job, and how far that has come
--   opened text          reads the header. A job with a faulty header has no kind, and kind e stands for it
--   Turn C               what comes of a job call: its outcome, how far the job has come then, the levels of its plan, and what it makes of the list
--   on_line line r       a fault of the book, with the line of the call
--   turn k text room buffer stage   what comes of the next job call, with a list of `room` places and an answer buffer of `buffer` bytes; none if no call is left
--   most_left text stage    no more calls than this are left
--   stage_after          how far the job has come after it; list_left and text_left: the list and the answer buffer after it
use Rattle.std.specs.Prelude.{ℕ, suc, ◌-◌, cond, List, length, drop, Some, None, Ok, Err, Option, Result, ◌==◌, nat_le, nat_lt}
use Rattle.std.specs.Option.{option_map}
use Rattle.board.specs.declared.faults.Fault.{Fault}
use Rattle.board.specs.Processors.{ProcessorFigures, processor_made}
use Rattle.cost.specs.Kinds.{Meaning}
use Rattle.plans.specs.declared.figures.Figures.{Figures}
use Rattle.plans.specs.declared.states.State.{State}
use Rattle.plantext.specs.declared.faults.JobFault.{JobFault}
use Rattle.plantext.specs.declared.faults.JobFault.TheVariants.{LongText, ShortAnswer, Refused}
use Rattle.plantext.specs.Answers.{answer_text, room_needed, written, written_length}
use Rattle.plantext.specs.Faults.{job_numbered}
use Rattle.jobtext.specs.declared.answers.Answered.{Answered}
use Rattle.jobtext.specs.declared.headers.KindName.{KindName}
use Rattle.jobtext.specs.declared.headers.KindName.TheVariants.{Energy}
use Rattle.jobtext.specs.Lines.{Place, Reading}
use Rattle.jobtext.specs.Headers.{Header, header}
use Rattle.jobtext.specs.Calls.{CallOfJob, job_call}
use Rattle.jobtext.specs.Books.{JobBook, booked}
use Rattle.jobtext.specs.Made.{Made, made, no_levels}

abbrev pub longest_text : ℕ
longest_text = 16384

pub data Stage : Type 0 where
  -- the header is faulty, which the first call answers
  faulty : JobFault → Stage
  -- so many bytes are read, the next line has this number, and so stands the book
  going : ℕ → ℕ → JobBook → Stage
  -- nothing more is read
  over : Stage

abbrev pub read_of : List ℕ → Place → ℕ
read_of text q = length text - length q.rest

abbrev pub start : List ℕ → Place
start text = record { rest = text; line = 1 }

pub record Opening : Type 0 where
  pub kind : KindName
  pub stage : Stage

abbrev pub opening : KindName → Stage → Opening
opening kind stage = record { kind = kind; stage = stage }

-- 21 is about the header's last line
abbrev pub behind_header : List ℕ → Header → Place → Result ProcessorFigures Fault → Opening
behind_header text h q (Ok p) = opening h.kind (going (read_of text q) q.line (booked h.rule p))
behind_header text h q (Err fault) = opening Energy (faulty (Refused fault (q.line - 1)))

abbrev pub opened_by : List ℕ → Reading Header → Opening
opened_by text (Ok g) = behind_header text g.value g.place (processor_made g.value.processor)
opened_by text (Err e) = opening Energy (faulty e)

abbrev pub opened : List ℕ → Opening
opened text = cond (nat_lt longest_text (length text)) (opening Energy (faulty LongText)) (opened_by text (header (start text)))

pub record Turn (C : Type 0) : Type 0 where
  pub outcome : Result (Option (Figures C)) JobFault
  pub stage : Stage
  pub levels : List ℕ
  -- what the list holds, where it held `found` before; where that is open, it is whatever was `left`
  pub list : List (State C) → List (State C) → List (State C)

abbrev pub on_line : {C : Type 0} → ℕ → Result (Option (Figures C)) Fault → Result (Option (Figures C)) JobFault
on_line line (Ok outcome) = Ok outcome
on_line line (Err fault) = Err (Refused fault line)

-- a fault of the text, after which nothing more is read
abbrev pub ends : {C : Type 0} → JobFault → Turn C
ends e = record { outcome = Err e; stage = over; levels = no_levels; list = λ found left. found }

-- a call that was read up to the place q, and what it made of the book; its first line has the number `line`
abbrev pub goes : {C : Type 0} → List ℕ → ℕ → Place → Made C → Turn C
goes text line q m = record { outcome = on_line line m.answer; stage = going (read_of text q) q.line m.book; levels = m.levels; list = m.list }

-- 12 is looked for behind 11, and before the faults of lines
abbrev pub unless_short : ℕ → JobFault → JobFault
unless_short buffer e = cond ((job_numbered e).number == 11) e (cond (nat_lt buffer room_needed) ShortAnswer e)

module _ {C : Type 0} (k : Meaning C) (text : List ℕ) (room : ℕ) where
  abbrev pub called : ℕ → JobBook → Reading CallOfJob → Turn C
  called line b (Ok g) = goes text line g.place (made k room b g.value)
  called line b (Err e) = ends e

  abbrev pub call_at : ℕ → ℕ → JobBook → Turn C
  call_at at line b = called line b (job_call b.rule (length b.figures.processor.standby) (record { rest = drop at text; line = line }))

  -- 11 and 12 are looked for before the lines are read
  abbrev pub judged_call : ℕ → ℕ → ℕ → JobBook → Turn C
  judged_call buffer at line b = cond (nat_lt longest_text (length text)) (ends LongText) (cond (nat_lt buffer room_needed) (ends ShortAnswer) (call_at at line b))

  -- at the text's end no call is left, whatever the buffer
  abbrev pub turn : ℕ → Stage → Option (Turn C)
  turn buffer over = None
  turn buffer (faulty e) = Some (ends (unless_short buffer e))
  turn buffer (going at line b) = cond (nat_le (length text) at) None (Some (judged_call buffer at line b))

abbrev pub most_left : List ℕ → Stage → ℕ
most_left text over = 0
most_left text (faulty e) = 1
most_left text (going at line b) = suc (length text - at)

abbrev pub stage_after : {C : Type 0} → Stage → Option (Turn C) → Stage
stage_after stage None = stage
stage_after stage (Some t) = t.stage

abbrev pub list_left : {C : Type 0} → Option (Turn C) → List (State C) → List (State C) → List (State C)
list_left None found left = found
list_left (Some t) found left = t.list found left

module _ {C : Type 0} (numbers : C → List ℕ) where
  abbrev pub text_of : Turn C → List ℕ
  text_of t = answer_text numbers t.levels t.outcome

  abbrev pub text_left : Option (Turn C) → List ℕ → List ℕ
  text_left None found = found
  text_left (Some t) found = written (text_of t) found

  abbrev pub answered : Option (Turn C) → List ℕ → Option (Answered C)
  answered t found = option_map (λ t. record { outcome = t.outcome; length = written_length (text_of t) found }) t
