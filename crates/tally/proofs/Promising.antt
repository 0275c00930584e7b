-- The promises hold of every plan of rows that are fit.
use Rattle.std.proofs.Common.{ℕ, ◌≤◌, List, sym, ◌∙◌, subst}
use Rattle.cost.specs.Kinds.{Meaning, Laws}
use Rattle.plans.specs.Choices.{Row}
use Rattle.plans.specs.Places.{chosen}
use Rattle.plans.specs.Plans.{planned, levels_after}
use Rattle.plans.specs.Promises.{Rows, Ports, Matched}
use Rattle.plans.proofs.Fitting.{plans_best, none_fits_exactly}
use Rattle.plans.proofs.Renumbering.{renumbered}
use Rattle.plans.proofs.Telling.{levels_told}
use Rattle.tally.specs.Promises.{Given, Promised, Agree}

module _ {C : Type 0} (k : Meaning C) (laws : Laws k) where
  -- what the planner answers, and the levels that it leaves where it found others
  pub promised : (rows : List (Row C)) → Rows k rows → Ports rows → (room buffer : ℕ) (found : List ℕ) → Promised k rows (48 ≤ buffer) (planned k room buffer rows) (levels_after k rows (planned k room buffer rows) found)
  promised rows board ports room buffer found = record {
    given = λ f e.
        let plan = plans_best k laws rows board room buffer f e in
        let told = levels_told k rows f found laws board ports room buffer e in
        subst (λ r. Given k rows f (levels_after k rows r found)) (sym e) (record {
          choice = chosen k rows;
          told = record { level = told.0; no_task = told.1 };
          best = plan.best;
          costs = plan.costs;
          loads = plan.loads;
        });
    none_fits = λ long. (none_fits_exactly k rows room buffer long board).0;
    only_then = λ long. (none_fits_exactly k rows room buffer long board).1;
  }

  pub agree : IsSet C → (one other : List (Row C)) → Rows k one → Rows k other → Matched one other → (room buffer room' buffer' : ℕ) → Agree (planned k room buffer one) (planned k room' buffer' other)
  agree set one other fit fit' m room buffer room' buffer' f g e h =
      let x = plans_best k laws one fit room buffer f e in
      let y = plans_best k laws other fit' room' buffer' g h in
      let same = renumbered k laws set one other fit m (chosen k one) (chosen k other) x.best y.best in
      (x.costs ∙ same.0 ∙ sym y.costs, x.loads ∙ same.1 ∙ sym y.loads)
