-- What follows from the first line that applies, and from none.
use Rattle.std.proofs.Common.{◌≡◌, ℕ, Bool, true, false, cond, not, List, [], ◌∷◌, ◌++◌, Some, None, Ok, Err, Option, sym, refl, ap, ◌∙◌, arith}
use Rattle.board.specs.declared.faults.Fault.{Fault}
use Rattle.board.specs.declared.faults.Fault.TheVariants.{BadFigure, BadTime, TooSlow, LongHyperperiod}
use Rattle.board.specs.Processors.{ProcessorFigures}
use Rattle.board.specs.Tasks.{FiguresOfTask, figures_fit, due_fits, quick_enough, judged}
use Rattle.tally.specs.Tally.{Tally, put, Call, admit, trial}
use Rattle.tally.specs.Refusals.{Line, first, no_such_port, port_taken, long_period, refused, answered}
use Rattle.tally.specs.Steps.{changed, unless_refused}
use Rattle.tally.specs.Books.{BookFigures, book_figures, answer, after}

pub first_front : (xs ys : List Line) (f : Fault) → first xs ≡ Some f → first (xs ++ ys) ≡ Some f
first_front [] ys f = λ e. absurd (let z : ◌≡◌ {A = ℕ} 0 1 = cc in omega arith)
first_front (x ∷ xs) ys f = by x.applies (first_front xs ys f)
  where
    by : (b : Bool) → (first xs ≡ Some f → first (xs ++ ys) ≡ Some f) → cond b (Some x.fault) (first xs) ≡ Some f → cond b (Some x.fault) (first (xs ++ ys)) ≡ Some f
    by true r e = e
    by false r e = r e

pub first_past : (xs ys : List Line) → first xs ≡ None → first (xs ++ ys) ≡ first ys
first_past [] ys = λ e. refl
first_past (x ∷ xs) ys = by x.applies (first_past xs ys)
  where
    by : (b : Bool) → (first xs ≡ None → first (xs ++ ys) ≡ first ys) → cond b (Some x.fault) (first xs) ≡ None → cond b (Some x.fault) (first (xs ++ ys)) ≡ first ys
    by true r e = absurd (let z : ◌≡◌ {A = ℕ} 0 1 = cc in omega arith)
    by false r e = r e

-- a call that is declined answers the fault and leaves the book; any other makes its change
module _ (b : BookFigures) (call : Call) where
  pub declined_answer : (f : Fault) → refused b.processor b.tally call ≡ Some f → Err f ≡ answer b call
  declined_answer f e = ap answered (sym e)

  pub declined_stays : (f : Fault) → refused b.processor b.tally call ≡ Some f → b ≡ after b call
  declined_stays f e = ap (λ (o : Option Fault). book_figures b.processor (unless_refused o b.tally (changed b.tally call))) (sym e)

  pub accepted_answer : refused b.processor b.tally call ≡ None → Ok tt ≡ answer b call
  accepted_answer e = ap answered (sym e)

  pub accepted_changes : refused b.processor b.tally call ≡ None → book_figures b.processor (changed b.tally call) ≡ after b call
  accepted_changes e = ap (λ (o : Option Fault). book_figures b.processor (unless_refused o b.tally (changed b.tally call))) (sym e)

-- admitting a task: its port, its figures, and the hyperperiod with it
module _ (p : ProcessorFigures) (t : Tally) (port : ℕ) (task : FiguresOfTask) where
  -- the lines on the port, and those on the task's figures
  abbrev pub on_port : List Line
  on_port = no_such_port port ∷ port_taken t.tasks port ∷ []

  abbrev on_figures : List Line
  on_figures =
      record { applies = not (figures_fit p task); fault = BadFigure port }
      ∷ record { applies = not (due_fits t.clock task.due); fault = BadTime port }
      ∷ record { applies = not (quick_enough p t.clock task); fault = TooSlow port }
      ∷ []

  abbrev on_period : List Line
  on_period = record { applies = long_period (put t port (Some task)).tasks task.due; fault = LongHyperperiod port } ∷ []

  pub declined_by_port : (f : Fault) → first on_port ≡ Some f → refused p t (admit port task) ≡ Some f
  declined_by_port f e = first_front on_port (on_figures ++ on_period) f e

  module _ (at_port : first on_port ≡ None) where
    figures_bad : (f : Fault) (a b c : Bool) → Err f ≡ cond a (cond b (cond c (Ok task) (Err (TooSlow port))) (Err (BadTime port))) (Err (BadFigure port))
        → cond (not a) (Some (BadFigure port)) (cond (not b) (Some (BadTime port)) (cond (not c) (Some (TooSlow port)) None)) ≡ Some f
    figures_bad f true true true e = absurd (let z : ◌≡◌ {A = ℕ} 0 1 = cc in omega arith)
    figures_bad f true true false e = cc
    figures_bad f true false c e = cc
    figures_bad f false b c e = cc

    pub declined_by_figures : (f : Fault) → Err f ≡ judged p port t.clock task → refused p t (admit port task) ≡ Some f
    declined_by_figures f e =
        first_past on_port (on_figures ++ on_period) at_port
        ∙ first_front on_figures on_period f (figures_bad f (figures_fit p task) (due_fits t.clock task.due) (quick_enough p t.clock task) e)

    figures_good : (x : FiguresOfTask) (a b c : Bool) → Ok x ≡ cond a (cond b (cond c (Ok task) (Err (TooSlow port))) (Err (BadTime port))) (Err (BadFigure port))
        → cond (not a) (Some (BadFigure port)) (cond (not b) (Some (BadTime port)) (cond (not c) (Some (TooSlow port)) None)) ≡ None
    figures_good x true true true e = refl
    figures_good x true true false e = absurd (let z : ◌≡◌ {A = ℕ} 0 1 = cc in omega arith)
    figures_good x true false c e = absurd (let z : ◌≡◌ {A = ℕ} 0 1 = cc in omega arith)
    figures_good x false b c e = absurd (let z : ◌≡◌ {A = ℕ} 0 1 = cc in omega arith)

    module _ (x : FiguresOfTask) (good : Ok x ≡ judged p port t.clock task) where
      on_period_alone : refused p t (admit port task) ≡ first on_period
      on_period_alone =
          first_past on_port (on_figures ++ on_period) at_port
          ∙ first_past on_figures on_period (figures_good x (figures_fit p task) (due_fits t.clock task.due) (quick_enough p t.clock task) good)

      pub declined_by_period : long_period (put t port (Some task)).tasks task.due ≡ true → refused p t (admit port task) ≡ Some (LongHyperperiod port)
      declined_by_period e = on_period_alone ∙ ap (λ b. cond b (Some (LongHyperperiod port)) None) e

      pub admitted : long_period (put t port (Some task)).tasks task.due ≡ false → refused p t (admit port task) ≡ None
      admitted e = on_period_alone ∙ ap (λ b. cond b (Some (LongHyperperiod port)) None) e

-- a task that is judged good is the one that was named
pub judged_good : (p : ProcessorFigures) (port clock : ℕ) (x task : FiguresOfTask) → Ok x ≡ judged p port clock task → (x ≡ task) × (figures_fit p task ≡ true) × (due_fits clock task.due ≡ true) × (quick_enough p clock task ≡ true)
judged_good p port clock x task = by (figures_fit p task) (due_fits clock task.due) (quick_enough p clock task)
  where
    by : (a b c : Bool) → Ok x ≡ cond a (cond b (cond c (Ok task) (Err (TooSlow port))) (Err (BadTime port))) (Err (BadFigure port)) → (x ≡ task) × (a ≡ true) × (b ≡ true) × (c ≡ true)
    by true true true e = (cc, refl, refl, refl)
    by true true false e = absurd (let z : ◌≡◌ {A = ℕ} 0 1 = cc in omega arith)
    by true false c e = absurd (let z : ◌≡◌ {A = ℕ} 0 1 = cc in omega arith)
    by false b c e = absurd (let z : ◌≡◌ {A = ℕ} 0 1 = cc in omega arith)

-- a trial leaves the book
pub trial_stays : (b : BookFigures) (capacity : ℕ) → after b (trial capacity) ≡ b
trial_stays b capacity = by (refused b.processor b.tally (trial capacity))
  where
    by : (o : Option Fault) → book_figures b.processor (unless_refused o b.tally b.tally) ≡ b
    by None = refl
    by (Some f) = refl
