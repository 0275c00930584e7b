-- What is promised of a plan has one proof at most, so that it follows from rows whose facts are only known to hold.
use mathlib.Core.Logic.{∥∥₁_prop}
use mathlib.Core.HLevel.{Π_prop}
use Rattle.std.proofs.Common.{List}
use native.Mathlib.Bridge.{le_prop}
use native.Mathlib.Nat.{ℕ_set}
use lib.Dec.{T_prop}
use Rattle.cost.specs.Kinds.{Meaning}
use Rattle.plans.specs.declared.figures.Figures.{Figures}
use Rattle.plans.specs.Choices.{Row, Taken, load, keeps}
use Rattle.plans.specs.Fronts.{cost}
use Rattle.plans.specs.Places.{chosen}
use Rattle.plans.specs.Promises.{Best, PlanOf}

module _ {C : Type 0} (k : Meaning C) (rows : List (Row C)) where
  pub best_prop : (c : List (Taken C)) → IsProp (Best k rows c)
  best_prop c x y = λ i. record {
    choice = ∥∥₁_prop x.choice y.choice i;
    kept = T_prop (keeps c) x.kept y.kept i;
    cheapest = Π_prop (λ d. Π_prop (λ a. Π_prop (λ t. T_prop (k.under (cost k c) (cost k d))))) x.cheapest y.cheapest i;
    lightest = Π_prop (λ d. Π_prop (λ a. Π_prop (λ t. Π_prop (λ e. le_prop)))) x.lightest y.lightest i;
  }

  pub plan_of_prop : IsSet C → (f : Figures C) → IsProp (PlanOf k rows f)
  plan_of_prop set f x y = λ i. record {
    best = best_prop (chosen k rows) x.best y.best i;
    costs = set f.cost (cost k (chosen k rows)) x.costs y.costs i;
    loads = ℕ_set f.load (load (chosen k rows)) x.loads y.loads i;
  }
