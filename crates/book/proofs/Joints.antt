-- The hyperperiod of the tasks from some port on.
use Rattle.std.proofs.Common.{◌≡◌, ℕ, zero, suc, ◌+◌, ◌<◌, ◌≤◌, Bool, true, false, cond, ◌&&◌, leb, List, [], ◌∷◌, length, get_or, drop, Some, None, Option, sym, refl, ap, ◌∙◌, arith}
use Rattle.std.specs.Option.{option_map}
use Rattle.std.proofs.lemmas.List.{at_drop_more, get_or-map, length-map}
use Rattle.std.proofs.lemmas.Bool.{lt-leb, le-leb, cond-true, cond-false, leb-false}
use Rattle.board.specs.declared.tasks.Task.{Task}
use Rattle.board.specs.Periods.{lcm, hyperperiod, hyperperiod_with, period_fits, longest}
use Rattle.board.specs.Tasks.{FiguresOfTask}
use Rattle.board.specs.Views.{task_figures}
use Rattle.board.proofs.Multiples.{from_on}
use Rattle.board.proofs.Passing.{pass_at}
use Rattle.plans.specs.Boards.{due_time, standing, joint_period}
use Rattle.tally.specs.Boards.{has_period, on_task}
use Rattle.tally.proofs.Periods.{dues, dues_standing, due_in_range}
use Rattle.book.specs.Tasks.{figures_of, each_period, if_short, joined_with}

-- no hyperperiod gets shorter by one task more
joint_rises : (ts : List (Option FiguresOfTask)) (i : ℕ) → hyperperiod (dues (drop i ts)) ≤ hyperperiod (dues ts)
joint_rises ts zero = omega arith
joint_rises [] (suc i) = omega arith
joint_rises (None ∷ ts) (suc i) = joint_rises ts i
joint_rises (Some t ∷ ts) (suc i) =
    let h = hyperperiod (dues ts) in
    let p = due_time t.due in
    omega (arith, joint_rises ts i, from_on h h p p)

-- what is answered of a hyperperiod that is short, and of one that is not
pub short_enough : (h : ℕ) → h ≤ longest → Some h ≡ if_short h
short_enough h e = sym (cond-true (leb h longest) (Some h) None (le-leb h longest e))

pub too_long : (h : ℕ) → longest < h → None ≡ if_short h
too_long h e = sym (cond-false (leb h longest) (Some h) None (lt-leb h longest e))

with_some : (h p n : ℕ) → Some n ≡ hyperperiod_with h p → n ≡ lcm h p
with_some h p n = by (period_fits p && leb (lcm h p) longest)
  where
    by : (b : Bool) → Some n ≡ cond b (Some (lcm h p)) None → n ≡ lcm h p
    by true e = cc
    by false e = absurd (let z : ◌≡◌ {A = ℕ} 0 1 = cc in omega arith)

module _ (xs : List (Option Task)) (i : ℕ) (o : Option Task) (within : i < length xs) (is : o ≡ get_or xs i o) where
  read : get_or (figures_of xs) i None ≡ option_map task_figures o
  read = get_or-map (option_map task_figures) xs i o None within ∙ ap (option_map task_figures) (sym is)

  pub one_more : {Y : Type 0} (F : List (Option FiguresOfTask) → Y) → F (drop i (figures_of xs)) ≡ F (option_map task_figures o ∷ drop (i + 1) (figures_of xs))
  one_more F =
      at_drop_more F (figures_of xs) i None (omega (arith, within, length-map xs (option_map task_figures)))
      ∙ ap (λ x. F (x ∷ drop (i + 1) (figures_of xs))) read

  pub joint_more : (h n : ℕ) → h ≡ hyperperiod (dues (drop (i + 1) (figures_of xs))) → Some n ≡ joined_with h (option_map task_figures o) → n ≡ hyperperiod (dues (drop i (figures_of xs)))
  joint_more h n e r =
      let ts = drop (i + 1) (figures_of xs) in
      by (option_map task_figures o) ts (r ∙ ap (λ x. joined_with x (option_map task_figures o)) e) ∙ sym (one_more (λ us. hyperperiod (dues us)))
    where
      by : (y : Option FiguresOfTask) (ts : List (Option FiguresOfTask)) → Some n ≡ joined_with (hyperperiod (dues ts)) y → n ≡ hyperperiod (dues (y ∷ ts))
      by None ts q = cc
      by (Some t) ts q = with_some (hyperperiod (dues ts)) (due_time t.due) n q

  -- where one task makes it too long, so it is with all of them
  pub joint_too_long : (h : ℕ) → h ≡ hyperperiod (dues (drop (i + 1) (figures_of xs))) → each_period (figures_of xs) ≡ true → None ≡ joined_with h (option_map task_figures o) → longest < hyperperiod (dues (figures_of xs))
  joint_too_long h e fit r =
      let ts = drop (i + 1) (figures_of xs) in
      let here = by (option_map task_figures o) ts period_here (r ∙ ap (λ x. joined_with x (option_map task_figures o)) e) in
      omega (arith, here, one_more (λ us. hyperperiod (dues us)), joint_rises (figures_of xs) i)
    where
      period_here : on_task (λ x. has_period x.due) (option_map task_figures o) ≡ true
      period_here =
          ap (on_task (λ x. has_period x.due)) (sym read)
          ∙ pass_at (on_task (λ x. has_period x.due)) (figures_of xs) i None fit (omega (arith, within, length-map xs (option_map task_figures)))

      declined : (a b : Bool) (n : ℕ) → a ≡ true → None ≡ cond (a && b) (Some n) None → b ≡ false
      declined true true n f q = absurd (let z : ◌≡◌ {A = ℕ} 0 1 = cc in omega arith)
      declined true false n f q = refl
      declined false b n f q = absurd (let z : ◌≡◌ {A = ℕ} 0 1 = cc in omega arith)

      by : (y : Option FiguresOfTask) (ts : List (Option FiguresOfTask)) → on_task (λ x. has_period x.due) y ≡ true → None ≡ joined_with (hyperperiod (dues ts)) y → longest < hyperperiod (dues (y ∷ ts))
      by None ts f q = absurd (let z : ◌≡◌ {A = ℕ} 0 1 = cc in omega arith)
      by (Some t) ts f q =
          let m = lcm (hyperperiod (dues ts)) (due_time t.due) in
          leb-false m longest (declined (period_fits (due_time t.due)) (leb m longest) m (due_in_range t.due f) q)

pub joint_all : (ts : List (Option FiguresOfTask)) → hyperperiod (dues ts) ≡ joint_period (standing 1 ts)
joint_all ts = ap hyperperiod (sym (dues_standing ts 1))
