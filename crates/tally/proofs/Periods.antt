-- The hyperperiod of tasks does not depend on their ports.
use Rattle.std.proofs.Common.{◌≡◌, ℕ, zero, suc, ◌+◌, ◌≤◌, true, ◌&&◌, List, [], ◌∷◌, map, set, Some, None, Option, sym, refl, ap, ◌∙◌, subst, inl, inr, arith}
use Prim.Native.Nat.{◌∣◌}
use native.Mathlib.Nat.{dvd_refl, dvd_trans, dvd_antisymm, le_of_dvd}
use Rattle.std.specs.List.{list_all}
use Rattle.std.proofs.lemmas.Bool.{and_parts, and_from}
use Rattle.board.specs.declared.dues.Due.{Due}
use Rattle.board.specs.declared.dues.Due.TheVariants.{Period, Deadline}
use Rattle.board.specs.Processors.{ProcessorFigures}
use Rattle.board.specs.Periods.{lcm, period_fits, hyperperiod}
use Rattle.board.specs.Tasks.{FiguresOfTask, figures_fit}
use Rattle.board.specs.Measures.{Among}
use Rattle.board.proofs.Multiples.{lcm_first, lcm_second, lcm_pos, lcm_least}
use Rattle.board.proofs.Hyperperiods.{period_pos}
use Rattle.cost.specs.Sums.{Reordered, no_items, same_first, first_two, by_way_of}
use Rattle.plans.specs.Boards.{standing, due_time, due_of, joint_period}
use Rattle.tally.specs.Boards.{has_period, top_offered, periodic_task, each_task}
use Rattle.tally.proofs.Orders.{reordered_self, reordered_pass}

module _ (h p q : ℕ) (h_pos : 1 ≤ h) (p_pos : 1 ≤ p) (q_pos : 1 ≤ q) where
  lcm_turns : lcm (lcm h p) q ∣ lcm (lcm h q) p
  lcm_turns =
      let n = lcm h q in
      let n_pos = lcm_pos h q h_pos q_pos in
      let n_in = lcm_first n p n_pos p_pos in
      lcm_least (lcm h p) q (lcm_pos h p h_pos p_pos) q_pos (lcm n p)
      (lcm_least h p h_pos p_pos (lcm n p) (dvd_trans h (lcm_first h q h_pos q_pos) n_in) (lcm_second n p n_pos p_pos))
      (dvd_trans q (lcm_second h q h_pos q_pos) n_in)

lcm_turned : (h p q : ℕ) → 1 ≤ h → 1 ≤ p → 1 ≤ q → lcm (lcm h p) q ≡ lcm (lcm h q) p
lcm_turned h p q h_pos p_pos q_pos = dvd_antisymm (lcm_turns h p q h_pos p_pos q_pos) (lcm_turns h q p h_pos q_pos p_pos)

pub hyperperiod_pos : (ps : List ℕ) → list_all period_fits ps ≡ true → 1 ≤ hyperperiod ps
hyperperiod_pos [] fit = omega arith
hyperperiod_pos (p ∷ ps) fit =
    let parts = and_parts (period_fits p) (list_all period_fits ps) fit in
    lcm_pos (hyperperiod ps) p (hyperperiod_pos ps parts.1) (period_pos p parts.0)

pub hyperperiod_reordered : {ps qs : List ℕ} → Reordered ps qs → list_all period_fits ps ≡ true → hyperperiod ps ≡ hyperperiod qs
hyperperiod_reordered no_items fit = refl
hyperperiod_reordered (same_first {x = p} {xs = ps} r) fit = ap (λ n. lcm n p) (hyperperiod_reordered r (and_parts (period_fits p) (list_all period_fits ps) fit).1)
hyperperiod_reordered (first_two {x = p} {y = q} {xs = ps}) fit =
    let one = and_parts (period_fits p) (period_fits q && list_all period_fits ps) fit in
    let two = and_parts (period_fits q) (list_all period_fits ps) one.1 in
    lcm_turned (hyperperiod ps) q p (hyperperiod_pos ps two.1) (period_pos q two.0) (period_pos p one.0)
hyperperiod_reordered (by_way_of r s) fit = hyperperiod_reordered r fit ∙ hyperperiod_reordered s (reordered_pass period_fits r fit)

-- a multiple of one number gives a multiple
lcm_carries : (a b p : ℕ) → 1 ≤ a → 1 ≤ b → 1 ≤ p → a ∣ b → lcm a p ∣ lcm b p
lcm_carries a b p a_pos b_pos p_pos d = lcm_least a p a_pos p_pos (lcm b p) (dvd_trans a d (lcm_first b p b_pos p_pos)) (lcm_second b p b_pos p_pos)

-- the periods or deadlines of the tasks, whatever their ports
abbrev pub dues : List (Option FiguresOfTask) → List ℕ
dues [] = []
dues (None ∷ ts) = dues ts
dues (Some t ∷ ts) = due_time t.due ∷ dues ts

pub dues_standing : (ts : List (Option FiguresOfTask)) (port : ℕ) → map due_of (standing port ts) ≡ dues ts
dues_standing [] port = refl
dues_standing (None ∷ ts) port = dues_standing ts (port + 1)
dues_standing (Some t ∷ ts) port = ap (λ ds. due_time t.due ∷ ds) (dues_standing ts (port + 1))

pub dues_reordered : {ts us : List (Option FiguresOfTask)} → Reordered ts us → Reordered (dues ts) (dues us)
dues_reordered no_items = no_items
dues_reordered (same_first {x = None} r) = dues_reordered r
dues_reordered (same_first {x = Some t} r) = same_first (dues_reordered r)
dues_reordered (first_two {x = None} {y = None} {xs = ts}) = reordered_self (dues ts)
dues_reordered (first_two {x = None} {y = Some u} {xs = ts}) = reordered_self (due_time u.due ∷ dues ts)
dues_reordered (first_two {x = Some t} {y = None} {xs = ts}) = reordered_self (due_time t.due ∷ dues ts)
dues_reordered (first_two {x = Some t} {y = Some u} {xs = ts}) = first_two
dues_reordered (by_way_of r s) = by_way_of (dues_reordered r) (dues_reordered s)

pub due_in_range : (due : Due) → has_period due ≡ true → period_fits (due_time due) ≡ true
due_in_range (Period p) e = e
due_in_range (Deadline d) e = absurd (let z : ◌≡◌ {A = ℕ} 0 1 = cc in omega arith)

pub periods_in_range : (p : ProcessorFigures) (ts : List (Option FiguresOfTask)) → each_task (periodic_task p) ts ≡ true → list_all period_fits (dues ts) ≡ true
periods_in_range p [] fit = refl
periods_in_range p (None ∷ ts) fit = periods_in_range p ts fit
periods_in_range p (Some t ∷ ts) fit =
    let parts = and_parts (periodic_task p t) (each_task (periodic_task p) ts) fit in
    and_from _ _ (due_in_range t.due (and_parts (has_period t.due) (figures_fit p t && top_offered p t) parts.0).0) (periods_in_range p ts parts.1)

pub joint_reordered : (p : ProcessorFigures) (ts us : List (Option FiguresOfTask)) → Reordered ts us → each_task (periodic_task p) ts ≡ true → (m n : ℕ) → joint_period (standing m ts) ≡ joint_period (standing n us)
joint_reordered p ts us r fit m n =
    ap hyperperiod (dues_standing ts m) ∙ hyperperiod_reordered (dues_reordered r) (periods_in_range p ts fit) ∙ ap hyperperiod (sym (dues_standing us n))

-- one task less: the periods stay in range, and the hyperperiod gets no longer
retired_in_range : (ts : List (Option FiguresOfTask)) (i : ℕ) → list_all period_fits (dues ts) ≡ true → list_all period_fits (dues (set ts i None)) ≡ true
retired_in_range [] i fit = refl
retired_in_range (None ∷ ts) zero fit = fit
retired_in_range (None ∷ ts) (suc i) fit = retired_in_range ts i fit
retired_in_range (Some t ∷ ts) zero fit = (and_parts (period_fits (due_time t.due)) (list_all period_fits (dues ts)) fit).1
retired_in_range (Some t ∷ ts) (suc i) fit =
    let parts = and_parts (period_fits (due_time t.due)) (list_all period_fits (dues ts)) fit in
    and_from _ _ parts.0 (retired_in_range ts i parts.1)

retired_divides : (ts : List (Option FiguresOfTask)) (i : ℕ) → list_all period_fits (dues ts) ≡ true → hyperperiod (dues (set ts i None)) ∣ hyperperiod (dues ts)
retired_divides [] i fit = dvd_refl 1
retired_divides (None ∷ ts) zero fit = dvd_refl (hyperperiod (dues ts))
retired_divides (None ∷ ts) (suc i) fit = retired_divides ts i fit
retired_divides (Some t ∷ ts) zero fit =
    let parts = and_parts (period_fits (due_time t.due)) (list_all period_fits (dues ts)) fit in
    lcm_first (hyperperiod (dues ts)) (due_time t.due) (hyperperiod_pos (dues ts) parts.1) (period_pos (due_time t.due) parts.0)
retired_divides (Some t ∷ ts) (suc i) fit =
    let parts = and_parts (period_fits (due_time t.due)) (list_all period_fits (dues ts)) fit in
    lcm_carries (hyperperiod (dues (set ts i None))) (hyperperiod (dues ts)) (due_time t.due) (hyperperiod_pos (dues (set ts i None)) (retired_in_range ts i parts.1)) (hyperperiod_pos (dues ts) parts.1) (period_pos (due_time t.due) parts.0) (retired_divides ts i parts.1)

pub joint_retired : (p : ProcessorFigures) (ts : List (Option FiguresOfTask)) (i : ℕ) → each_task (periodic_task p) ts ≡ true → joint_period (standing 1 (set ts i None)) ≤ joint_period (standing 1 ts)
joint_retired p ts i fit =
    let range = periods_in_range p ts fit in
    omega (arith, ap hyperperiod (dues_standing ts 1), ap hyperperiod (dues_standing (set ts i None) 1), le_of_dvd (hyperperiod_pos (dues ts) range) (retired_divides ts i range))

-- a period divides the hyperperiod
pub period_divides : (ps : List ℕ) (q : ℕ) → list_all period_fits ps ≡ true → Among q ps → q ∣ hyperperiod ps
period_divides [] q fit h = absurd h
period_divides (p ∷ ps) q fit (inl e) =
    let parts = and_parts (period_fits p) (list_all period_fits ps) fit in
    subst (λ n. n ∣ hyperperiod (p ∷ ps)) (sym e) (lcm_second (hyperperiod ps) p (hyperperiod_pos ps parts.1) (period_pos p parts.0))
period_divides (p ∷ ps) q fit (inr h) =
    let parts = and_parts (period_fits p) (list_all period_fits ps) fit in
    dvd_trans q (period_divides ps q parts.1 h) (lcm_first (hyperperiod ps) p (hyperperiod_pos ps parts.1) (period_pos p parts.0))
