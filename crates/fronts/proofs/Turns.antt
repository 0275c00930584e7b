-- The merge: turn by turn the cheapest head is taken, and the cursor of its level goes on to the next index.
-- `at level i` is the candidate that a level makes of the pair at index i of the front before.
use Rattle.std.proofs.Common.{◌≡◌, ℕ, suc, ◌+◌, ◌-◌, ◌<◌, ◌≤◌, List, length, get_or, set, Some, sum_by, Option, sym, subst, arith}
use Rattle.std.proofs.lemmas.List.Sums.{sum_by-set}
use Rattle.cost.specs.Kinds.{Meaning, Total, NoDearer}
use Rattle.plans.specs.declared.states.State.{State}
use Rattle.fronts.specs.Merging.{cheapest}
use Rattle.fronts.proofs.Heads.{stands}

-- the candidates of a level have its number; they are none, or as many as the front before has pairs
pub record Indexed {C : Type 0} (at : ℕ → ℕ → Option (State C)) (size : ℕ) : Type 0 where
  pub levelled : (level i : ℕ) (x : State C) → at level i ≡ Some x → x.level ≡ level
  pub short : (level i : ℕ) (x : State C) → at level i ≡ Some x → i < size
  pub filled : (level i j : ℕ) (x : State C) → at level i ≡ Some x → j < size → (y : State C) × (at level j ≡ Some y)

-- their costs are totals, and rise with the index
pub record Rising {C : Type 0} (k : Meaning C) (at : ℕ → ℕ → Option (State C)) : Type 0 where
  pub good : (level i : ℕ) (x : State C) → level < 8 → at level i ≡ Some x → Total k x.cost
  pub rises : (level i j : ℕ) (x y : State C) → level < 8 → i ≤ j → at level i ≡ Some x → at level j ≡ Some y → NoDearer k x.cost y.cost

-- the candidate that the cursor of a level stands at
abbrev pub heads_at : {C : Type 0} → (ℕ → ℕ → Option (State C)) → List ℕ → ℕ → Option (State C)
heads_at at cursors level = at level (get_or cursors level 0)

-- how many candidates the cursors have left
abbrev pub left : ℕ → List ℕ → ℕ
left size cursors = sum_by (λ c. size - c) cursors

-- the cursors after the head of a level was taken
abbrev pub moved : List ℕ → ℕ → List ℕ
moved cursors level = set cursors level (get_or cursors level 0 + 1)

module _ {C : Type 0} (at : ℕ → ℕ → Option (State C)) (size : ℕ) (indexed : Indexed at size) (cursors : List ℕ) (eight : length cursors ≡ 8) (k : Meaning C) (x : State C) (next : cheapest k (heads_at at cursors) 8 ≡ Some x) where
  -- the cheapest head is that of its level
  pub here : at x.level (get_or cursors x.level 0) ≡ Some x
  here = let s = stands k (heads_at at cursors) 8 x next in subst (λ l. heads_at at cursors l ≡ Some x) (sym (indexed.levelled s.level (get_or cursors s.level 0) x s.is)) s.is

  pub low : x.level < 8
  low = let s = stands k (heads_at at cursors) 8 x next in omega (arith, s.below, indexed.levelled s.level (get_or cursors s.level 0) x s.is)

  pub short : get_or cursors x.level 0 < size
  short = indexed.short x.level (get_or cursors x.level 0) x here

  -- one candidate less
  pub left_falls : left size cursors ≡ suc (left size (moved cursors x.level))
  left_falls = omega (arith, sum_by-set (λ c. size - c) cursors x.level (get_or cursors x.level 0 + 1) 0 (omega (arith, low)), short)
