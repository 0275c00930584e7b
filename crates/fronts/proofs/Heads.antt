-- The cheapest of the heads, that of the lowest level at equal cost.
use Rattle.std.proofs.Common.{◌≡◌, ℕ, zero, suc, ◌+◌, ◌<◌, ◌≤◌, ◌⊎◌, Some, None, Option, sym, refl, ap, ◌∙◌, subst, inl, inr, ⊎_elim, add-one, arith}
use Rattle.std.proofs.lemmas.Bool.{cases_lt}
use Rattle.cost.specs.Kinds.{Meaning, Total, Laws, NoDearer}
use Rattle.plans.specs.declared.states.State.{State}
use Rattle.plans.proofs.Members.{cond_by, none-some, same_some}
use Rattle.plans.proofs.Candidates.{Before}
use Rattle.fronts.specs.Merging.{cheaper, cheapest}

below_or_last : (level n : ℕ) → level < suc n → (level < n) ⊎ (level ≡ n)
below_or_last level n lt = ⊎_elim inl (λ ge. inr (omega arith)) (cases_lt level n)

module _ {C : Type 0} (k : Meaning C) (heads : ℕ → Option (State C)) where
  -- x is one of the first n heads
  pub record Stands (n : ℕ) (x : State C) : Type 0 where
    pub level : ℕ
    pub below : level < n
    pub is : heads level ≡ Some x

  -- x comes no later than any of the first n heads
  abbrev pub First : ℕ → State C → Type 0
  First n x = (level : ℕ) (y : State C) → level < n → heads level ≡ Some y → Before k x y

  further : (n : ℕ) (x : State C) → Stands n x → Stands (suc n) x
  further n x s = record { level = s.level; below = omega (arith, s.below); is = s.is }

  last : (n : ℕ) (x : State C) → heads n ≡ Some x → Stands (suc n) x
  last n x is = record { level = n; below = omega arith; is = is }

  stands_on : (n : ℕ) (a b : Option (State C)) → heads n ≡ b → ((x : State C) → a ≡ Some x → Stands n x) → (x : State C) → cheaper k a b ≡ Some x → Stands (suc n) x
  stands_on n None b e old x is = last n x (e ∙ is)
  stands_on n (Some z) None e old x is = further n x (old x is)
  stands_on n (Some z) (Some y) e old x is = cond_by (k.under z.cost y.cost) (Some z) (Some y) (λ r. r ≡ Some x → Stands (suc n) x) (λ _ i. further n x (old x i)) (λ _ i. last n x (e ∙ i)) is

  pub stands : (n : ℕ) (x : State C) → cheapest k heads n ≡ Some x → Stands n x
  stands zero x is = absurd (none-some refl is)
  stands (suc n) x is = stands_on n (cheapest k heads n) (heads n) refl (stands n) x is

  none_on : (n : ℕ) (a b : Option (State C)) → heads n ≡ b → (a ≡ None → (level : ℕ) → level < n → heads level ≡ None) → cheaper k a b ≡ None → (level : ℕ) → level < suc n → heads level ≡ None
  none_on n None b e old is level lt = ⊎_elim (old refl level) (λ at_n. ap heads at_n ∙ e ∙ is) (below_or_last level n lt)
  none_on n (Some z) None e old is level lt = absurd (none-some is refl)
  none_on n (Some z) (Some y) e old is level lt =
      absurd (cond_by (k.under z.cost y.cost) (Some z) (Some y) (λ r. r ≡ None → ⊥) (λ _ i. none-some i refl) (λ _ i. none-some i refl) is)

  pub none_stands : (n : ℕ) → cheapest k heads n ≡ None → (level : ℕ) → level < n → heads level ≡ None
  none_stands zero is level lt = absurd (omega arith)
  none_stands (suc n) is level lt = none_on n (cheapest k heads n) (heads n) refl (none_stands n) is level lt

  module _ (laws : Laws k) (levelled : (level : ℕ) (x : State C) → heads level ≡ Some x → x.level ≡ level) (most : ℕ) (good : (level : ℕ) (x : State C) → level < most → heads level ≡ Some x → Total k x.cost) where
    self : (n : ℕ) (x y : State C) → n < most → heads n ≡ Some x → x ≡ y → Before k x y
    self n x y low is e = subst (Before k x) e (record { cheaper = ⊎_elim (λ h. h) (λ h. h) (laws.either x.cost x.cost (good n x low is) (good n x low is)); lower = λ _. omega arith })

    -- what holds of those below n and of the one at n holds of those below n + 1
    first_more : (n : ℕ) (x : State C) → First n x → ((y : State C) → heads n ≡ Some y → Before k x y) → First (suc n) x
    first_more n x old new level y lt is = ⊎_elim (λ below. old level y below is) (λ at_n. new y (sym (ap heads at_n) ∙ is)) (below_or_last level n lt)

    module _ (n : ℕ) (low : n < most) (z y : State C) (is_z : cheapest k heads n ≡ Some z) (is_y : heads n ≡ Some y) (old : First n z) where
      s : Stands n z
      s = stands n z is_z

      stays : NoDearer k z.cost y.cost → First (suc n) z
      stays t = first_more n z old (λ w is. subst (Before k z) (same_some is_y is) (record { cheaper = t; lower = λ _. omega (arith, s.below, levelled s.level z s.is, levelled n y is_y) }))

      gives_way : (NoDearer k z.cost y.cost → ⊥) → First (suc n) y
      gives_way dearer =
          let gy = good n y low is_y in
          let gz = good s.level z (omega (arith, s.below)) s.is in
          let under : NoDearer k y.cost z.cost = ⊎_elim (λ t. absurd (dearer t)) (λ t. t) (laws.either z.cost y.cost gz gy) in
          first_more n y
          (λ level w lt is. let gw = good level w (omega arith) is in let b = old level w lt is in
          record { cheaper = laws.chain y.cost z.cost w.cost gy gz gw under b.cheaper; lower = λ t. absurd (dearer (laws.chain z.cost w.cost y.cost gz gw gy b.cheaper t)) })
          (λ w is. self n y w low is_y (same_some is_y is))

    first_on : (n : ℕ) → n < most → (a b : Option (State C)) → cheapest k heads n ≡ a → heads n ≡ b → ((x : State C) → cheapest k heads n ≡ Some x → First n x) → (x : State C) → cheaper k a b ≡ Some x → First (suc n) x
    first_on n low None b none e old x is =
        first_more n x (λ level y lt h. absurd (none-some (none_stands n none level lt) h)) (λ y h. self n x y low (e ∙ is) (same_some (e ∙ is) h))
    first_on n low (Some z) None is_z e old x is = first_more n x (old x (is_z ∙ is)) (λ y h. absurd (none-some e h))
    first_on n low (Some z) (Some y) is_z e old x is = cond_by (k.under z.cost y.cost) (Some z) (Some y) (λ r. r ≡ Some x → First (suc n) x)
        (λ t i. subst (First (suc n)) (same_some refl i) (stays n low z y is_z e (old z is_z) t))
        (λ dearer i. subst (First (suc n)) (same_some refl i) (gives_way n low z y is_z e (old z is_z) dearer)) is

    pub first : (n : ℕ) → n ≤ most → (x : State C) → cheapest k heads n ≡ Some x → First n x
    first zero few x is = absurd (none-some refl is)
    first (suc n) few x is = first_on n (omega arith) (cheapest k heads n) (heads n) refl refl (first n (omega arith)) x is

-- only the first n heads count
pub cheapest_same : {C : Type 0} (k : Meaning C) (f g : ℕ → Option (State C)) (n : ℕ) → ((level : ℕ) → level < n → f level ≡ g level) → cheapest k f n ≡ cheapest k g n
cheapest_same k f g zero same = refl
cheapest_same k f g (suc n) same = ap (λ o. cheaper k o (f n)) (cheapest_same k f g n (λ level lt. same level (omega arith))) ∙ ap (cheaper k (cheapest k g n)) (same n (omega arith))

-- a loop over the levels, one level on
module _ {C : Type 0} (k : Meaning C) (heads : ℕ → Option (State C)) (n : ℕ) (found : Option (State C)) (so_far : found ≡ cheapest k heads n) where
  pub cheapest_some : (x : State C) → Some x ≡ heads n → cheaper k found (Some x) ≡ cheapest k heads (n + 1)
  cheapest_some x is = ap (λ o. cheaper k o (Some x)) so_far ∙ ap (cheaper k (cheapest k heads n)) is ∙ ap (cheapest k heads) (sym (add-one n))

  pub cheapest_none : None ≡ heads n → found ≡ cheapest k heads (n + 1)
  cheapest_none is = sym (alone found) ∙ ap (λ o. cheaper k o None) so_far ∙ ap (cheaper k (cheapest k heads n)) is ∙ ap (cheapest k heads) (sym (add-one n)) where
    alone : (o : Option (State C)) → cheaper k o None ≡ o
    alone None = refl
    alone (Some x) = refl
