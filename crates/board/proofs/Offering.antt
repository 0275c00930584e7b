-- Offers of a processor to a task, by what their types hold.
use Rattle.std.proofs.Common.{◌≡◌, ℕ, ◌%◌, ◌^◌, ◌<◌, ◌≤◌, true, List, ◌∷◌, length, Some, sym, refl, ap, ◌∙◌, subst, inl, inr, arith, pow_mono}
use mathlib.Core.Logic.{∥∥₁_map}
use Rattle.std.specs.List.{list_all, slice_get}
use Rattle.std.proofs.lemmas.Bool.{le-leb, eq-eqb, eqb-true, and_parts, and_from, cases_lt}
use Rattle.board.specs.declared.dues.Due.{Due}
use Rattle.board.specs.declared.dues.Due.TheVariants.{Period, Deadline}
use Rattle.board.specs.declared.levels.Level.{Level}
use Rattle.board.specs.declared.processors.Processor.{Processor}
use Rattle.board.specs.declared.tasks.Task.{Task}
use Rattle.board.specs.Periods.{period_fits, hyperperiod, lcm, longest, OfPeriods}
use Rattle.board.specs.Tasks.{figures_fit, shares_fit, period_in_range, busy_time}
use Rattle.board.specs.Measures.{most_time, measure, offered, counts_in, Own, Offered}
use Rattle.board.specs.Views.{processor_figures, task_figures}
use Rattle.board.proofs.Bounds.{Bounded, measure_bounded}
use Rattle.board.proofs.Hyperperiods.{lcm_same, period_pos}

shared_by : (n m : ℕ) (ss : List ℕ) → shares_fit n ss ≡ true → length ss ≡ m → shares_fit m ss ≡ true
shared_by n m ss fit e = and_from _ _ (eq-eqb (length ss) m e) (and_parts _ _ fit).1

module _ (p : Processor) (t : Task) (h : ℕ) (l : Level) (one_each : length (task_figures t).shares ≡ length (processor_figures p).standby) where
  pub shares_each : shares_fit (length (processor_figures p).standby) (task_figures t).shares ≡ true
  shares_each = shared_by (length (task_figures t).shares) (length (processor_figures p).standby) (task_figures t).shares t.shared one_each

  pub task_in_range : figures_fit (processor_figures p) (task_figures t) ≡ true
  task_in_range = and_from _ _ (and_from _ _ (le-leb 1 t.cycles t.some) (le-leb t.cycles 1000000000 t.bounded)) (and_from _ _ (le-leb t.access 1000000 t.modest) shares_each)

  pub bounded : l.mw ≤ 60000 → h ≤ longest → busy_time t.cycles l.mhz ≤ most_time t.due → Bounded (measure (processor_figures p) (task_figures t) h l)
  bounded strong short taken = measure_bounded (processor_figures p) (task_figures t) h l strong p.standby_fits shares_each t.modest short t.timed taken

-- fewer than 26 periods that each at least double the hyperperiod
few_periods : (n h : ℕ) → 2 ^ n ≤ h → h ≤ longest → n < 26
few_periods n h grown short = elim (cases_lt n 26) [ inl p ↦ p | inr q ↦ absurd (omega (arith, pow_mono {i = 26} {j = n} q)) ]

-- periods with the task's own among them
record PeriodsWith (due : Due) (h : ℕ) : Type 0 where
  periods : List ℕ
  few : length periods ≤ 48
  in_range : list_all period_fits periods ≡ true
  own : Own due periods
  is : hyperperiod periods ≡ h

periods_with : (due : Due) (h : ℕ) → period_in_range due ≡ true → counts_in h due ≡ true → h ≤ longest → OfPeriods h → PeriodsWith due h
periods_with (Period p) h timed counted short o = record {
  periods = p ∷ o.periods;
  few = omega (arith, few_periods (length o.periods) h o.doubled short);
  in_range = and_from _ _ timed o.in_range;
  own = inl refl;
  is = ap (λ n. lcm n p) o.is ∙ lcm_same h p (period_pos p timed) (eqb-true (h % p) 0 counted);
}
periods_with (Deadline d) h timed counted short o = record { periods = o.periods; few = omega (arith, few_periods (length o.periods) h o.doubled short); in_range = o.in_range; own = tt; is = o.is }

pub offered_here : (p : Processor) (t : Task) (h : ℕ) (l : Level) (number : ℕ) → length (task_figures t).shares ≡ length (processor_figures p).standby → counts_in h t.due ≡ true → h ≤ longest → ∥ OfPeriods h ∥₁ → slice_get (processor_figures p).levels number ≡ Some l → offered (task_figures t) l ≡ true → Offered (measure (processor_figures p) (task_figures t) h l)
offered_here p t h l number one_each counted short made at taken = ∥∥₁_map made λ o.
    let ps = periods_with t.due h t.timed counted short o in
    record {
      processor = processor_figures p;
      task = task_figures t;
      level = l;
      number = number;
      periods = ps.periods;
      processor_in_range = and_from _ _ p.levels_fit p.standby_fits;
      task_in_range = task_in_range p t h l one_each;
      few = ps.few;
      periods_in_range = ps.in_range;
      own = ps.own;
      short = subst (λ n. n ≤ longest) (sym ps.is) short;
      has_level = at;
      in_time = taken;
      figures = ap (λ n. measure (processor_figures p) (task_figures t) n l) (sym ps.is);
    }
