-- The boards of a tally whose tasks are fit: what the theorems on plans ask of rows.
use Rattle.std.proofs.Common.{◌≡◌, ◌≤◌, true, length, refl, arith}
use Rattle.board.specs.Processors.{ProcessorFigures, processor_fits}
use Rattle.cost.specs.Kinds.{Meaning}
use Rattle.plans.specs.Boards.{standing, due_of, by_deadline, row, joint_period, periodic_limit, sporadic_limit}
use Rattle.plans.specs.Promises.{Rows, Ports}
use Rattle.plans.proofs.Standings.{periodic_stand, sporadic_stand}
use Rattle.tally.specs.Tally.{Tally}
use Rattle.tally.specs.Boards.{periodic_board, sporadic_board, periodic_tasks, sporadic_tasks}
use Rattle.tally.proofs.Standings.{few_standing, port_standing, distinct_standing, by_deadline_out, distinct_by_deadline, ports_rows}
use Rattle.tally.proofs.Measures.{periodic_measured, sporadic_measured}

module _ {C : Type 0} (k : Meaning C) (p : ProcessorFigures) (t : Tally) (few : length t.tasks ≤ 48) where
  pub periodic_fits : processor_fits p ≡ true → periodic_tasks p t.tasks ≡ true → Rows k (periodic_board k p t)
  periodic_fits fits fit = periodic_stand k p (standing 1 t.tasks) (omega (arith, few_standing t.tasks 1)) t.capacity (periodic_measured p fits t.tasks few fit)

  pub sporadic_fits : processor_fits p ≡ true → sporadic_tasks p t.tasks ≡ true → Rows k (sporadic_board k p t)
  sporadic_fits fits fit = sporadic_stand k p (standing 1 t.tasks) (omega (arith, few_standing t.tasks 1)) t.clock (sporadic_measured p fits t.tasks fit)

  pub periodic_ports : Ports (periodic_board k p t)
  periodic_ports =
      let h = joint_period (standing 1 t.tasks) in
      ports_rows (λ s. row k p h (periodic_limit h t.capacity) s) (λ s. refl) (standing 1 t.tasks) (distinct_standing t.tasks 1) (λ s i. let r = port_standing t.tasks 1 s i in (omega arith, omega arith))

  pub sporadic_ports : Ports (sporadic_board k p t)
  sporadic_ports =
      ports_rows (λ s. row k p 1 (sporadic_limit (due_of s) t.clock) s) (λ s. refl) (by_deadline (standing 1 t.tasks)) (distinct_by_deadline (standing 1 t.tasks) (distinct_standing t.tasks 1))
      (λ s i. let r = port_standing t.tasks 1 s (by_deadline_out (standing 1 t.tasks) s i) in (omega arith, omega arith))
