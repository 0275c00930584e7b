-- Each job call leaves fewer calls than it found.
use Rattle.std.proofs.Common.{◌≡◌, ℕ, ◌<◌, Bool, true, false, cond, ltb, leb, List, length, drop, is_some, Some, None, Ok, Err, Option, sym, refl, arith, length-drop, leb-false}
use Rattle.std.proofs.lemmas.Bool.{true≢false}
use Rattle.cost.specs.Kinds.{Meaning}
use Rattle.plantext.specs.declared.faults.JobFault.TheVariants.{LongText, ShortAnswer}
use Rattle.plantext.specs.Answers.{room_needed}
use Rattle.jobtext.specs.Lines.{Place, Reading}
use Rattle.jobtext.specs.Calls.{CallOfJob, job_call}
use Rattle.jobtext.specs.Books.{JobBook}
use Rattle.jobtext.specs.Jobs.{longest_text, Stage, faulty, going, over, Turn, ends, called, call_at, judged_call, turn, most_left, stage_after, answered}
use Rattle.jobtext.proofs.Advancing.{Shrinks, call_shrinks}

module _ {C : Type 0} (k : Meaning C) (text : List ℕ) (room buffer : ℕ) where
  abbrev pub Fewer : Stage → Option (Turn C) → Type 0
  Fewer stage None = Unit {0}
  Fewer stage (Some t) = most_left text t.stage < most_left text stage

  module _ (at line : ℕ) (b : JobBook) where
    by_call : at < length text → (r : Reading CallOfJob) → Shrinks (record { rest = drop at text; line = line }) r → Fewer (going at line b) (Some (called k text room line b r))
    by_call inside (Ok g) h = omega (arith, length-drop at text)
    by_call inside (Err e) h = omega arith

    by_buffer : at < length text → (t : Bool) → Fewer (going at line b) (Some (cond t (ends ShortAnswer) (call_at k text room at line b)))
    by_buffer inside true = omega arith
    by_buffer inside false =
        let q : Place = record { rest = drop at text; line = line } in
        by_call inside (job_call b.rule (length b.figures.processor.standby) q) (call_shrinks b.rule (length b.figures.processor.standby) q)

    by_length : at < length text → (t : Bool) → Fewer (going at line b) (Some (cond t (ends LongText) (cond (ltb buffer room_needed) (ends ShortAnswer) (call_at k text room at line b))))
    by_length inside true = omega arith
    by_length inside false = by_buffer inside (ltb buffer room_needed)

    by_end : (t : Bool) → leb (length text) at ≡ t → Fewer (going at line b) (cond t None (Some (judged_call k text room buffer at line b)))
    by_end true past = tt
    by_end false more = by_length (omega (arith, leb-false)) (ltb longest_text (length text))

  turn_fewer : (stage : Stage) → Fewer stage (turn k text room buffer stage)
  turn_fewer over = tt
  turn_fewer (faulty e) = omega arith
  turn_fewer (going at line b) = by_end at line b (leb (length text) at) refl

  told : (numbers : C → List ℕ) (found : List ℕ) (stage : Stage) (t : Option (Turn C)) → Fewer stage t → is_some (answered numbers t found) ≡ true → most_left text (stage_after stage t) < most_left text stage
  told numbers found stage None h e = absurd (true≢false (sym e))
  told numbers found stage (Some t) h e = h

  pub fewer_left : (numbers : C → List ℕ) (found : List ℕ) (stage : Stage) → is_some (answered numbers (turn k text room buffer stage) found) ≡ true → most_left text (stage_after stage (turn k text room buffer stage)) < most_left text stage
  fewer_left numbers found stage e = told numbers found stage (turn k text room buffer stage) (turn_fewer stage) e
