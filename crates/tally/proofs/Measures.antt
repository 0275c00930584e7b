-- A task that is fit for a book has its top level offered, and at each offered level the measure of an admissible task.
use Rattle.std.proofs.Common.{◌≡◌, ℕ, ◌-◌, ◌%◌, ◌≤◌, Bool, true, false, cond, ◌&&◌, eqb, leb, List, [], length, get_or, Some, None, Option, sym, refl, ap, ◌∙◌, subst, arith}
use Prim.Native.Nat.{◌∣◌}
use native.Mathlib.Nat.{mod-eq-zero_of_dvd}
use Rattle.std.specs.List.{list_all}
use Rattle.std.proofs.lemmas.Bool.{and_parts, and_from, leb-true, eq-eqb, cond-true}
use Rattle.board.specs.declared.dues.Due.{Due}
use Rattle.board.specs.declared.dues.Due.TheVariants.{Period, Deadline}
use Rattle.board.specs.declared.levels.Level.{Level}
use Rattle.board.specs.declared.measures.Measure.{Measure}
use Rattle.board.specs.Processors.{ProcessorFigures, between, levels_fit, standby_fits, processor_fits}
use Rattle.board.specs.Periods.{period_fits, hyperperiod, longest}
use Rattle.board.specs.Tasks.{FiguresOfTask, figures_fit, shares_fit, busy_time}
use Rattle.board.specs.Measures.{measure, most_time, offered, offer_at, offer, counts_in, belongs, Among, Own, Offered}
use Rattle.board.proofs.Leveling.{some_level, top_last}
use Rattle.std.specs.List.{slice_get}
use Rattle.std.proofs.lemmas.Option.{slice_get-get_or}
use Rattle.plans.specs.Boards.{Standing, standing, due_time, due_of, joint_period}
use Rattle.plans.specs.Choices.{In}
use Rattle.plans.specs.Promises.{Measured}
use Rattle.plans.proofs.Members.{none-some, same_some}
use Rattle.tally.specs.Boards.{top_offered, has_period, has_deadline, periodic_task, sporadic_task, each_task, periodic_tasks}
use Rattle.tally.proofs.Periods.{dues, dues_standing, periods_in_range, period_divides}
use Rattle.tally.proofs.Standings.{each_standing, own_standing, few_dues}

-- what is answered under a test that holds
given : {X : Type 0} (b : Bool) (x y : X) → cond b (Some x) None ≡ Some y → (b ≡ true) × (x ≡ y)
given true x y e = (refl, same_some refl e)
given false x y e = absurd (none-some refl e)

module _ (p : ProcessorFigures) (fits : processor_fits p ≡ true) (t : FiguresOfTask) (h : ℕ) where
  top_level : top_offered p t ≡ true → (level : ℕ) × (m : Measure) × (offer p t h level ≡ Some m)
  top_level e =
      let none : Level = record { mhz = 0; mw = 0 } in
      let some = some_level p.levels (and_parts (levels_fit p.levels) (standby_fits p.standby) fits).0 in
      let n = length p.levels - 1 in
      let l = get_or p.levels n none in (
        n,
        measure p t h l,
        ap (offer_at p t h) (slice_get-get_or p.levels n none (omega arith))
            ∙ cond-true (offered t l) (Some (measure p t h l)) None (subst (λ speed. leb (busy_time t.cycles speed) (most_time t.due) ≡ true) (top_last p.levels none some) e),
      )

  -- under the hyperperiod of some periods, its own among them
  module _ (periods : List ℕ) (few : length periods ≤ 48) (in_range : list_all period_fits periods ≡ true) (own : Own t.due periods) (short : hyperperiod periods ≤ longest) (is : hyperperiod periods ≡ h) (task_fits : figures_fit p t ≡ true) where
    offered_at : (level : ℕ) (o : Option Level) → slice_get p.levels level ≡ o → (m : Measure) → offer_at p t h o ≡ Some m → Offered m
    offered_at level None at m e = absurd (none-some refl e)
    offered_at level (Some l) at m e =
        let g = given (offered t l) (measure p t h l) m e in
        ∣ record {
          processor = p;
          task = t;
          level = l;
          number = level;
          periods = periods;
          processor_in_range = fits;
          task_in_range = task_fits;
          few = few;
          periods_in_range = in_range;
          own = own;
          short = short;
          has_level = at;
          in_time = g.0;
          figures = sym g.1 ∙ ap (λ n. measure p t n l) (sym is);
        } ∣₁

    task_measures : (level : ℕ) (m : Measure) → offer p t h level ≡ Some m → Offered m
    task_measures level m e = offered_at level (slice_get p.levels level) refl m e

own_period : (due : Due) (ps : List ℕ) → Among (due_time due) ps → Own due ps
own_period (Period p) ps h = h
own_period (Deadline d) ps h = tt

own_deadline : (due : Due) → has_deadline due ≡ true → Own due []
own_deadline (Period p) e = absurd (let z : ◌≡◌ {A = ℕ} 0 1 = cc in omega arith)
own_deadline (Deadline d) e = tt

module _ (p : ProcessorFigures) (fits : processor_fits p ≡ true) (ts : List (Option FiguresOfTask)) where
  pub periodic_measured : length ts ≤ 48 → periodic_tasks p ts ≡ true → (s : Standing) → In s (standing 1 ts) → Measured p (joint_period (standing 1 ts)) s
  periodic_measured few fit s i =
      let parts = and_parts (each_task (periodic_task p) ts) (leb (joint_period (standing 1 ts)) longest) fit in
      let t = s.task in
      let task = and_parts (has_period t.due) (figures_fit p t && top_offered p t) (each_standing (periodic_task p) ts 1 s parts.0 i) in
      let figures = and_parts (figures_fit p t) (top_offered p t) task.1 in
      let h = joint_period (standing 1 ts) in
      let is : hyperperiod (dues ts) ≡ h = ap hyperperiod (sym (dues_standing ts 1)) in
      record {
        offered = top_level p fits t h figures.1;
        measures = task_measures p fits t h (dues ts) (omega (arith, few_dues ts)) (periods_in_range p ts parts.0) (own_period t.due (dues ts) (own_standing ts 1 s i)) (omega (arith, is, leb-true h longest parts.1)) is figures.0;
      }

  pub sporadic_measured : each_task (sporadic_task p) ts ≡ true → (s : Standing) → In s (standing 1 ts) → Measured p 1 s
  sporadic_measured fit s i =
      let t = s.task in
      let task = and_parts (has_deadline t.due) (figures_fit p t && top_offered p t) (each_standing (sporadic_task p) ts 1 s fit i) in
      let figures = and_parts (figures_fit p t) (top_offered p t) task.1 in
      record {
        offered = top_level p fits t 1 figures.1;
        measures = task_measures p fits t 1 [] (omega arith) refl (own_deadline t.due task.0) (omega arith) refl figures.0;
      }

-- each task belongs to the processor, and stands in the hyperperiod
counts_period : (due : Due) (h : ℕ) → has_period due ≡ true → due_time due ∣ h → counts_in h due ≡ true
counts_period (Period q) h e d = eq-eqb (h % q) 0 (mod-eq-zero_of_dvd q d)
counts_period (Deadline d) h e _ = refl

counts_deadline : (due : Due) (h : ℕ) → has_deadline due ≡ true → counts_in h due ≡ true
counts_deadline (Period q) h e = absurd (let z : ◌≡◌ {A = ℕ} 0 1 = cc in omega arith)
counts_deadline (Deadline d) h e = refl

shares_here : (p : ProcessorFigures) (t : FiguresOfTask) → figures_fit p t ≡ true → eqb (length t.shares) (length p.standby) ≡ true
shares_here p t fit =
    let rest = (and_parts (between 1 1000000000 t.cycles) (leb t.access 1000000 && shares_fit (length p.standby) t.shares) fit).1 in
    (and_parts _ _ (and_parts (leb t.access 1000000) (shares_fit (length p.standby) t.shares) rest).1).0

module _ (p : ProcessorFigures) (ts : List (Option FiguresOfTask)) (s : Standing) (i : In s (standing 1 ts)) where
  pub periodic_belongs : periodic_tasks p ts ≡ true → belongs p s.task (joint_period (standing 1 ts)) ≡ true
  periodic_belongs fit =
      let each = (and_parts (each_task (periodic_task p) ts) (leb (joint_period (standing 1 ts)) longest) fit).0 in
      let t = s.task in
      let task = and_parts (has_period t.due) (figures_fit p t && top_offered p t) (each_standing (periodic_task p) ts 1 s each i) in
      let divides = period_divides (dues ts) (due_of s) (periods_in_range p ts each) (own_standing ts 1 s i) in
      and_from _ _ (shares_here p t (and_parts (figures_fit p t) (top_offered p t) task.1).0)
      (counts_period t.due (joint_period (standing 1 ts)) task.0 (subst (λ n. due_of s ∣ n) (ap hyperperiod (sym (dues_standing ts 1))) divides))

  pub sporadic_belongs : each_task (sporadic_task p) ts ≡ true → belongs p s.task 1 ≡ true
  sporadic_belongs fit =
      let t = s.task in
      let task = and_parts (has_deadline t.due) (figures_fit p t && top_offered p t) (each_standing (sporadic_task p) ts 1 s fit i) in
      and_from _ _ (shares_here p t (and_parts (figures_fit p t) (top_offered p t) task.1).0) (counts_deadline t.due 1 task.0)
