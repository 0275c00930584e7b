-- A task with cycles taken off.
use Rattle.std.proofs.Common.{◌≡◌, ℕ, zero, suc, ◌+◌, ◌-◌, ◌<◌, ◌≤◌, true, false, cond, not, ◌&&◌, ltb, leb, List, [], ◌∷◌, Some, None, Option, refl, ap, ◌∙◌, le-div_iff_mul-le, div-mul-le_self, arith}
use native.Mathlib.Nat.{div-zero}
use Rattle.std.proofs.lemmas.Bool.{and_parts, and_from, leb-true, le-leb, ltb-true, cond_both}
use Rattle.board.specs.declared.faults.Fault.{Fault}
use Rattle.board.specs.declared.faults.Fault.TheVariants.{BadFigure}
use Rattle.board.specs.Processors.{ProcessorFigures, between}
use Rattle.board.specs.Tasks.{FiguresOfTask, shares_fit, figures_fit, busy_time, top_speed, fewer_cycles}
use Rattle.board.specs.Measures.{most_time}
use Rattle.tally.specs.Tally.{Tally, task_at, serve}
use Rattle.tally.specs.Refusals.{Line, first, no_such_port, port_free, remaining, refused}
use Rattle.tally.specs.Steps.{served}
use Rattle.tally.specs.Boards.{has_deadline, top_offered, sporadic_task, on_task}
use Rattle.tally.proofs.Refusing.{first_front, first_past}

-- fewer cycles take no longer
quicker : (c n v : ℕ) → busy_time (c - n) v ≤ busy_time c v
quicker c n zero = omega (arith, div-zero (c - n + 0 - 1), div-zero (c + 0 - 1))
quicker c n (suc v) = (le-div_iff_mul-le {k = suc v} {x = busy_time (c - n) (suc v)} {y = c + suc v - 1} (omega arith)).1 (omega (arith, div-mul-le_self (c - n + suc v - 1) (suc v)))

served_fits : (p : ProcessorFigures) (t : FiguresOfTask) (n : ℕ) → sporadic_task p t ≡ true → n < t.cycles → sporadic_task p (fewer_cycles t n) ≡ true
served_fits p t n fit h =
    let one = and_parts (has_deadline t.due) (figures_fit p t && top_offered p t) fit in
    let two = and_parts (figures_fit p t) (top_offered p t) one.1 in
    let figures = and_parts (between 1 1000000000 t.cycles) (leb t.access 1000000 && shares_fit _ t.shares) two.0 in
    let range = and_parts (leb 1 t.cycles) (leb t.cycles 1000000000) figures.0 in
    and_from _ _ one.0 (and_from _ _
    (and_from _ _ (and_from _ _ (le-leb 1 (t.cycles - n) (omega arith)) (le-leb (t.cycles - n) 1000000000 (omega (arith, leb-true _ _ range.1)))) figures.1)
    (le-leb _ (most_time t.due) (omega (arith, quicker t.cycles n (top_speed p.levels), leb-true _ _ two.1))))

pub rest_fits : (p : ProcessorFigures) (o : Option FiguresOfTask) (n : ℕ) → on_task (sporadic_task p) o ≡ true → on_task (sporadic_task p) (served n o) ≡ true
rest_fits p None n fit = refl
rest_fits p (Some t) n fit = cond_both (ltb n t.cycles) (Some (fewer_cycles t n)) None (λ o. on_task (sporadic_task p) o ≡ true) (λ e. served_fits p t n fit (ltb-true n t.cycles e)) (λ _. refl)

-- declined by its port, by its cycles, or not
module _ (p : ProcessorFigures) (t : Tally) (port cycles : ℕ) where
  abbrev at_port : List Line
  at_port = no_such_port port ∷ port_free t.tasks port ∷ []

  abbrev on_cycles : List Line
  on_cycles = record { applies = not (between 1 (remaining (task_at t port)) cycles); fault = BadFigure port } ∷ []

  pub serve_by_port : (f : Fault) → first at_port ≡ Some f → refused p t (serve port cycles) ≡ Some f
  serve_by_port f e = first_front at_port on_cycles f e

  pub serve_by_cycles : first at_port ≡ None → between 1 (remaining (task_at t port)) cycles ≡ false → refused p t (serve port cycles) ≡ Some (BadFigure port)
  serve_by_cycles e g = first_past at_port on_cycles e ∙ ap (λ b. cond (not b) (Some (BadFigure port)) None) g

  pub serve_taken : first at_port ≡ None → between 1 (remaining (task_at t port)) cycles ≡ true → refused p t (serve port cycles) ≡ None
  serve_taken e g = first_past at_port on_cycles e ∙ ap (λ b. cond (not b) (Some (BadFigure port)) None) g
