-- The calls of a job text.
--   CallOfJob            what a call asks of the book: a change of what stands, a plan, or a trial at a capacity
--   takes rule word      books of this rule take calls of this word
--   word_of rule v       the word of a call that books of this rule take
--   due_key rule         the key of the time at which a task is due
--   due_at rule n        that time: a period or a deadline
--   call_lines rule devices word q   reads the lines of a call behind its first
--   job_call rule devices q          reads a call: its word, and its lines
use Rattle.std.specs.Prelude.{ℕ, Bool, true, false, cond, List, [], ◌∷◌, Some, None, Ok, codes, Option}
use Rattle.board.specs.declared.dues.Due.{Due}
use Rattle.board.specs.declared.dues.Due.TheVariants.{Period, Deadline}
use Rattle.tally.specs.Tally.{Call, admit, retire, serve, set_capacity, set_clock}
use Rattle.jobtext.specs.declared.headers.Rule.{Rule}
use Rattle.jobtext.specs.declared.headers.Rule.TheVariants.{Periodic, Sporadic}
use Rattle.jobtext.specs.declared.calls.Word.{Word}
use Rattle.jobtext.specs.declared.calls.Word.TheVariants.{Admit, Retire, Capacity, Trial, Serve, Clock, Plan}
use Rattle.jobtext.specs.Lines.{Place, Reading, got, and_then, due, repeated}
use Rattle.jobtext.specs.Headers.{named, called, number_line}

pub data CallOfJob : Type 0 where
  to_change : Call → CallOfJob
  to_plan : CallOfJob
  to_try : ℕ → CallOfJob

-- the books of both rules take admit, retire and plan; the others are taken by one of them
abbrev pub takes : Rule → Word → Bool
takes Periodic Admit = true
takes Periodic Retire = true
takes Periodic Capacity = true
takes Periodic Trial = true
takes Periodic Serve = false
takes Periodic Clock = false
takes Periodic Plan = true
takes Sporadic Admit = true
takes Sporadic Retire = true
takes Sporadic Capacity = false
takes Sporadic Trial = false
takes Sporadic Serve = true
takes Sporadic Clock = true
takes Sporadic Plan = true

abbrev pub if_taken : Rule → Option Word → Option Word
if_taken rule None = None
if_taken rule (Some word) = cond (takes rule word) (Some word) None

abbrev pub word_named : List ℕ → Option Word
word_named v =
    named v
    (called (codes "admit") Admit
    ∷ called (codes "retire") Retire
    ∷ called (codes "capacity") Capacity
    ∷ called (codes "trial") Trial
    ∷ called (codes "serve") Serve
    ∷ called (codes "clock") Clock
    ∷ called (codes "plan") Plan
    ∷ [])

abbrev pub word_of : Rule → List ℕ → Option Word
word_of rule v = if_taken rule (word_named v)

abbrev pub due_key : Rule → List ℕ
due_key Periodic = codes "period="
due_key Sporadic = codes "deadline="

abbrev pub due_at : Rule → ℕ → Due
due_at Periodic n = Period n
due_at Sporadic n = Deadline n

abbrev pub call_lines : Rule → ℕ → Word → Place → Reading CallOfJob
call_lines rule devices Admit q =
    and_then (number_line (codes "port=") q) (λ port q.
    and_then (number_line (codes "cycles=") q) (λ cycles q.
    and_then (number_line (codes "access=") q) (λ access q.
    and_then (number_line (due_key rule) q) (λ time q.
    and_then (repeated (number_line (codes "share=")) devices q) (λ shares q.
    Ok (got (to_change (admit port (record { cycles = cycles; access = access; shares = shares; due = due_at rule time }))) q))))))
call_lines rule devices Retire q = and_then (number_line (codes "port=") q) (λ port q. Ok (got (to_change (retire port)) q))
call_lines rule devices Capacity q = and_then (number_line (codes "capacity=") q) (λ capacity q. Ok (got (to_change (set_capacity capacity)) q))
call_lines rule devices Trial q = and_then (number_line (codes "capacity=") q) (λ capacity q. Ok (got (to_try capacity) q))
call_lines rule devices Serve q =
    and_then (number_line (codes "port=") q) (λ port q.
    and_then (number_line (codes "cycles=") q) (λ cycles q. Ok (got (to_change (serve port cycles)) q)))
call_lines rule devices Clock q = and_then (number_line (codes "time=") q) (λ time q. Ok (got (to_change (set_clock time)) q))
call_lines rule devices Plan q = Ok (got to_plan q)

abbrev pub job_call : Rule → ℕ → Place → Reading CallOfJob
job_call rule devices q = and_then (due (codes "call=") (word_of rule) q) (λ word q. call_lines rule devices word q)
