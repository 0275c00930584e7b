-- The figures of an offered level are bounded.
use Rattle.std.proofs.Common.{◌≡◌, ℕ, ◌+◌, ◌*◌, ◌/◌, ◌≤◌, true, List, [], ◌∷◌, length, sym, refl, subst, inl, inr, mul-le-mul, mul-le-mul_left, mul-add, div-mul-le_self, mul_left_comm, arith}
use mathlib.Core.Logic.{∥∥₁_elim}
use native.Mathlib.Bridge.{le_prop}
use Rattle.std.specs.List.{list_all}
use Rattle.std.proofs.lemmas.Bool.{leb-true, and_parts}
use Rattle.board.specs.declared.dues.Due.{Due}
use Rattle.board.specs.declared.dues.Due.TheVariants.{Period, Deadline}
use Rattle.board.specs.declared.levels.Level.{Level}
use Rattle.board.specs.declared.measures.Measure.{Measure}
use Rattle.board.specs.Processors.{ProcessorFigures, levels_fit, standby_fits}
use Rattle.board.specs.Periods.{period_fits, hyperperiod, longest}
use Rattle.board.specs.Tasks.{FiguresOfTask, period_in_range, shares_fit, busy_time}
use Rattle.board.specs.Measures.{draw, most_time, jobs, measure, Among, Own, AtOfferedLevel, Offered}
use Rattle.board.proofs.Leveling.{level_found}
use Rattle.board.proofs.Standby.{standby_within}

pub record Bounded (m : Measure) : Type 0 where
  pub drawn : m.draw ≤ 100000000
  pub quick : m.busy ≤ 60000000
  pub often : m.jobs ≤ 600000
  pub light : m.load ≤ 60000000
  pub modest : m.energy ≤ 6600000000000000

-- all jobs at the longest busy time fit the longest hyperperiod
jobs_time : (h : ℕ) (due : Due) → h ≤ longest → jobs h due * most_time due ≤ longest
jobs_time h (Period p) short = omega (arith, div-mul-le_self h p)
jobs_time h (Deadline d) short = omega arith

jobs_within : (h : ℕ) (due : Due) → h ≤ longest → period_in_range due ≡ true → jobs h due ≤ 600000
jobs_within h (Period p) short fits =
    let low : 100 ≤ p = leb-true 100 p (and_parts _ _ fits).0 in
    omega (arith, div-mul-le_self h p, mul-le-mul_left (h / p) low)
jobs_within h (Deadline d) short fits = omega arith

most_within : (due : Due) → period_in_range due ≡ true → most_time due ≤ longest
most_within (Period p) fits = omega (arith, leb-true p 10000000 (and_parts _ _ fits).1)
most_within (Deadline d) fits = omega arith

energy_within : (g d t a : ℕ) → g * t ≤ 60000000 → g ≤ 600000 → d ≤ 100000000 → a ≤ 1000000 → g * (d * t + 1000 * a) ≤ 6600000000000000
energy_within g d t a load often drawn modest =
    let accesses : 1000 * a ≤ 1000000000 = omega arith in
    omega (arith, mul-add g (d * t) (1000 * a), mul_left_comm g d t, mul-le-mul drawn load, mul-le-mul often accesses)

module _ (p : ProcessorFigures) (t : FiguresOfTask) (h : ℕ) (l : Level) (strong : l.mw ≤ 60000) (standby : standby_fits p.standby ≡ true) (shared : shares_fit (length p.standby) t.shares ≡ true) (accessed : t.access ≤ 1000000) (short : h ≤ longest) (timed : period_in_range t.due ≡ true) (taken : busy_time t.cycles l.mhz ≤ most_time t.due) where
  pub draw_within : draw p t l ≤ 100000000
  draw_within = omega (arith, standby_within p.standby t.shares standby shared)

  pub load_within : jobs h t.due * busy_time t.cycles l.mhz ≤ longest
  load_within = omega (arith, jobs_time h t.due short, mul-le-mul_left (jobs h t.due) taken)

  pub measure_bounded : Bounded (measure p t h l)
  measure_bounded =
      let often = jobs_within h t.due short timed in
      record { drawn = draw_within; quick = omega (arith, most_within t.due timed); often = often; light = load_within; modest = energy_within (jobs h t.due) (draw p t l) (busy_time t.cycles l.mhz) t.access load_within often draw_within accessed }

among_in_range : (p : ℕ) (ps : List ℕ) → Among p ps → list_all period_fits ps ≡ true → period_fits p ≡ true
among_in_range p [] i fits = absurd i
among_in_range p (q ∷ qs) (inl e) fits = subst (λ n. period_fits n ≡ true) (sym e) (and_parts (period_fits q) (list_all period_fits qs) fits).0
among_in_range p (q ∷ qs) (inr i) fits = among_in_range p qs i (and_parts (period_fits q) (list_all period_fits qs) fits).1

own_in_range : (due : Due) (ps : List ℕ) → Own due ps → list_all period_fits ps ≡ true → period_in_range due ≡ true
own_in_range (Period p) ps own fits = among_in_range p ps own fits
own_in_range (Deadline d) ps own fits = refl

-- of any measure of an offered level
measured_bounded : (m : Measure) → AtOfferedLevel m → Bounded m
measured_bounded m a =
    let p = a.processor in
    let t = a.task in
    let fit = and_parts (levels_fit p.levels) (standby_fits p.standby) a.processor_in_range in
    let figures = and_parts _ _ (and_parts _ _ a.task_in_range).1 in
    let level = level_found p.levels a.number a.level fit.0 a.has_level in
    subst (λ x. Bounded x) (sym a.figures) (measure_bounded p t (hyperperiod a.periods) a.level level.strong fit.1 figures.1 (leb-true t.access 1000000 figures.0) a.short (own_in_range t.due a.periods a.own a.periods_in_range) (leb-true _ _ a.in_time))

pub load_bound : (m : Measure) → Offered m → m.load ≤ 60000000
load_bound m o = ∥∥₁_elim o le_prop (λ a. (measured_bounded m a).light)

pub draw_bound : (m : Measure) → Offered m → m.draw ≤ 100000000
draw_bound m o = ∥∥₁_elim o le_prop (λ a. (measured_bounded m a).drawn)

pub energy_bound : (m : Measure) → Offered m → m.energy ≤ 6600000000000000
energy_bound m o = ∥∥₁_elim o le_prop (λ a. (measured_bounded m a).modest)
