-- What the reader of this crate stands for.
--   place r            where the reader stands
--   cut_at bs n        the line of n bytes and what stands behind its end; none where there is no such line
--   alike bs cs        both begin with the same byte
--   cut_view l r       the line that was read, if one was, and what the reader has left
--   list_view a q      the list that was read, with the place behind it, or the fault
--   FormsAs post f     calls that end in `post` make of the value of a line what the form f makes of it
--   ReadsAs post f     calls that end in `post` read what f reads, from the place where the reader stands
--   header_view a q    the header that was read, with the place behind it, or the fault
--   call_figures rule c   what a call asks of a book of the rule
--   word_in c             the word of a call
--   call_view rule a q    the call that was read, with the place behind it, or the fault
--   read_view a q      what was read, with the place behind it, or the fault
use Rattle.std.specs.Prelude.{◌≡◌, ℕ, ◌+◌, Bool, false, List, [], ◌∷◌, take, drop, Some, None, Ok, Err, Option, Result, ◌==◌}
use Rattle.std.specs.Borrow.{Bor, MutBor}
use Rattle.shortlist.specs.declared.lists.ShortList.{ShortList}
use Rattle.shortlist.specs.Lists.{listed}
use Rattle.plantext.specs.declared.faults.JobFault.{JobFault}
use Rattle.jobtext.specs.declared.readers.Reader.{Reader}
use Rattle.jobtext.specs.declared.headers.Header.{Header}
use Rattle.jobtext.specs.Headers as Headers
use Rattle.jobtext.specs.declared.headers.Rule.{Rule}
use Rattle.jobtext.specs.declared.calls.JobCall.{JobCall}
use Rattle.jobtext.specs.declared.calls.JobCall.TheVariants as calls
use Rattle.jobtext.specs.declared.calls.Word.{Word}
use Rattle.jobtext.specs.declared.calls.Word.TheVariants as words
use Rattle.tally.specs.Tally.{admit, retire, serve, set_capacity, set_clock}
use Rattle.jobtext.specs.Calls.{CallOfJob, to_change, to_plan, to_try, due_at}
use Rattle.jobtext.specs.Lines.{Place, Reading, got, Cut}

abbrev pub place : Reader → Place
place r = record { rest = r.rest.now; line = r.line }

abbrev pub cut_at : List ℕ → Option ℕ → Option Cut
cut_at bs None = None
cut_at bs (Some n) = Some (record { line = take n bs; rest = drop (n + 1) bs })

abbrev pub alike : List ℕ → List ℕ → Bool
alike [] cs = false
alike (b ∷ bs) [] = false
alike (b ∷ bs) (c ∷ cs) = b == c

abbrev pub cut_view : Option (Bor (List ℕ)) → Reader → Option Cut
cut_view None r = None
cut_view (Some l) r = Some (record { line = l.now; rest = r.rest.now })

abbrev pub read_view : {X : Type 0} → Result X JobFault → Place → Reading X
read_view (Ok x) q = Ok (got x q)
read_view (Err e) q = Err e

abbrev pub list_view : {X : Type 0} → Result (ShortList X 8) JobFault → Place → Reading (List X)
list_view (Ok l) q = Ok (got (listed l) q)
list_view (Err e) q = Err e

abbrev pub FormsAs : {X : Type 0} → (Bor (List ℕ) → Option X → Type 0) → (List ℕ → Option X) → Type 0
FormsAs {X} post form = (v : Bor (List ℕ)) (x : Option X) → post v x → x ≡ form v.now

abbrev pub ReadsAs : {X : Type 0} → (MutBor Reader → Result X JobFault → MutBor Reader → Type 0) → (Place → Reading X) → Type 0
ReadsAs {X} post read = (r : MutBor Reader) (x : Result X JobFault) (s : MutBor Reader) → post r x s → read_view x (place s.now) ≡ read (place r.now)

abbrev pub header_figures : Header → Headers.Header
header_figures h = record { kind = h.kind; rule = h.rule; processor = record { levels = listed h.levels; standby = listed h.standby } }

abbrev pub header_view : Result Header JobFault → Place → Reading Headers.Header
header_view (Ok h) q = Ok (got (header_figures h) q)
header_view (Err e) q = Err e

abbrev pub call_figures : Rule → JobCall → CallOfJob
call_figures rule calls.Plan = to_plan
call_figures rule (calls.Admit port cycles access time shares) = to_change (admit port (record { cycles = cycles; access = access; shares = listed shares; due = due_at rule time }))
call_figures rule (calls.Retire port) = to_change (retire port)
call_figures rule (calls.Capacity thousandths) = to_change (set_capacity thousandths)
call_figures rule (calls.Trial thousandths) = to_try thousandths
call_figures rule (calls.Serve port cycles) = to_change (serve port cycles)
call_figures rule (calls.Clock time) = to_change (set_clock time)

abbrev pub call_view : Rule → Result JobCall JobFault → Place → Reading CallOfJob
call_view rule (Ok c) q = Ok (got (call_figures rule c) q)
call_view rule (Err e) q = Err e

abbrev pub word_in : JobCall → Word
word_in calls.Plan = words.Plan
word_in (calls.Admit port cycles access time shares) = words.Admit
word_in (calls.Retire port) = words.Retire
word_in (calls.Capacity thousandths) = words.Capacity
word_in (calls.Trial thousandths) = words.Trial
word_in (calls.Serve port cycles) = words.Serve
word_in (calls.Clock time) = words.Clock
