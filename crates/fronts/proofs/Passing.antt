-- What the merge has taken and kept after each turn, and at its end.
use Rattle.std.proofs.Common.{◌≡◌, ℕ, zero, suc, ◌+◌, ◌<◌, ◌≤◌, leb, ◌⊎◌, List, [], ◌∷◌, length, get_or, Some, None, Option, sym, refl, ◌∙◌, subst, inl, inr, ⊎_elim, arith, le→leb, leb→le, length-set, get_or-set_other, get_or-set_same}
use Rattle.std.proofs.lemmas.Bool.{cases_lt, cases_eq}
use Rattle.cost.specs.Kinds.{Meaning, Total, Laws}
use Rattle.plans.specs.declared.states.State.{State}
use Rattle.plans.proofs.Members.{cond_by, none-some, same_some}
use Rattle.plans.proofs.Candidates.{Before, Keeps, keeps_same, keep_first, keep_drop, keep_replace, keep_push}
use Rattle.fronts.specs.Merging.{cheapest, put, keep}
use Rattle.fronts.proofs.Heads.{none_stands, first}
use Rattle.fronts.proofs.Turns.{Indexed, Rising, heads_at, left, moved, here, low, left_falls}

module _ {C : Type 0} (at : ℕ → ℕ → Option (State C)) where
  -- z was taken: the cursor of its level is past it
  pub record Passed (cursors : List ℕ) (z : State C) : Type 0 where
    pub level : ℕ
    pub below : level < 8
    pub place : ℕ
    pub past : place < get_or cursors level 0
    pub is : at level place ≡ Some z

  -- z is a candidate that is not too heavy
  pub record Candidate (bound : ℕ) (z : State C) : Type 0 where
    pub level : ℕ
    pub below : level < 8
    pub place : ℕ
    pub is : at level place ≡ Some z
    pub light : z.load ≤ bound

  abbrev pub PassedLight : ℕ → List ℕ → State C → Type 0
  PassedLight bound cursors z = Passed cursors z × (z.load ≤ bound)

-- what was taken comes before what is left, and of what was taken and is not too heavy enough is kept
pub record Merging {C : Type 0} (k : Meaning C) (at : ℕ → ℕ → Option (State C)) (bound : ℕ) (cursors : List ℕ) (kept : List (State C)) : Type 0 where
  pub ordered : (z : State C) → Passed at cursors z → (level j : ℕ) (y : State C) → level < 8 → get_or cursors level 0 ≤ j → at level j ≡ Some y → Before k z y
  pub keeps : Keeps k (PassedLight at bound cursors) kept

-- before the first turn nothing was taken
pub starts : {C : Type 0} (k : Meaning C) (at : ℕ → ℕ → Option (State C)) (bound : ℕ) (cursors : List ℕ) → ((level : ℕ) → get_or cursors level 0 ≡ 0) → Merging k at bound cursors []
starts {C} k at bound cursors zeros = record {
  ordered = λ z p level j y below past is. absurd (none_passed z p);
  keeps = record { stacked = tt; sound = λ x i. absurd i; cover = λ x p. absurd (none_passed x p.0) };
} where
  none_passed : (z : State C) → Passed at cursors z → ⊥
  none_passed z p = omega (arith, p.past, zeros p.level)

-- one candidate more leaves no fewer
keep_longer : {C : Type 0} (k : Meaning C) (bound : ℕ) (kept : List (State C)) (x : State C) → length kept ≤ length (keep k bound kept x)
keep_longer {C} k bound kept x = cond_by (leb x.load bound) (put k kept x) kept (λ l. length kept ≤ length l) (λ _. put_longer kept) (λ _. omega arith) where
  put_longer : (kept : List (State C)) → length kept ≤ length (put k kept x)
  put_longer [] = omega arith
  put_longer (q ∷ kept) =
      cond_by (leb q.load x.load) (q ∷ kept) _ (λ l. length (q ∷ kept) ≤ length l) (λ _. omega arith)
      (λ _. cond_by (k.under x.cost q.cost) (x ∷ kept) (x ∷ q ∷ kept) (λ l. length (q ∷ kept) ≤ length l) (λ _. omega arith) (λ _. omega arith))

module _ {C : Type 0} (k : Meaning C) (laws : Laws k) (at : ℕ → ℕ → Option (State C)) (size bound : ℕ) (indexed : Indexed at size) (rising : Rising k at) where
  -- one candidate more, at the value of the tests
  module _ (P Q : State C → Type 0) (x : State C) (up : (y : State C) → P y → Q y) (now : Q x) (down : (y : State C) → Q y → P y ⊎ (y ≡ x)) (before : (y : State C) → P y → Before k y x) (good : (y : State C) → Q y → Total k y.cost) where
    put_keeps : (kept : List (State C)) → Keeps k P kept → Keeps k Q (put k kept x)
    put_keeps [] h = keep_first k laws P Q x up now down before good h
    put_keeps (q ∷ kept) h =
        cond_by (leb q.load x.load) (q ∷ kept) _ (Keeps k Q)
        (λ heavy. keep_drop k laws P Q x up now down before good q kept h (leb→le q.load x.load heavy))
        (λ light. let lighter : x.load < q.load = ⊎_elim (λ lt. lt) (λ ge. absurd (light (le→leb q.load x.load ge))) (cases_lt x.load q.load) in
        cond_by (k.under x.cost q.cost) (x ∷ kept) (x ∷ q ∷ kept) (Keeps k Q)
        (keep_replace k laws P Q x up now down before good q kept h lighter)
        (keep_push k laws P Q x up now down before good q kept h lighter))

  module _ (cursors : List ℕ) (eight : length cursors ≡ 8) where
    abbrev P : State C → Type 0
    P = PassedLight at bound cursors

    -- no head is left: all candidates were taken
    passed_all : ((level : ℕ) → level < 8 → heads_at at cursors level ≡ None) → (z : State C) → Candidate at bound z → P z
    passed_all none z m =
        let past = ⊎_elim (λ lt. lt)
        (λ ge. absurd (none-some (none m.level m.below) (indexed.filled m.level m.place (get_or cursors m.level 0) z m.is (omega (arith, indexed.short m.level m.place z m.is))).1))
        (cases_lt m.place (get_or cursors m.level 0)) in
        (record { level = m.level; below = m.below; place = m.place; past = past; is = m.is }, m.light)

    pub ends : (kept : List (State C)) → cheapest k (heads_at at cursors) 8 ≡ None → Merging k at bound cursors kept → Keeps k (Candidate at bound) kept
    ends kept none m =
        keeps_same k P (Candidate at bound) kept
        (λ z p. record { level = p.0.level; below = p.0.below; place = p.0.place; is = p.0.is; light = p.1 })
        (passed_all (none_stands k (heads_at at cursors) 8 none)) m.keeps

    -- x is taken
    module _ (x : State C) (next : cheapest k (heads_at at cursors) 8 ≡ Some x) where
      abbrev on : List ℕ
      on = moved cursors x.level

      abbrev Q : State C → Type 0
      Q = PassedLight at bound on

      stood : at x.level (get_or cursors x.level 0) ≡ Some x
      stood = here at size indexed cursors eight k x next

      below_eight : x.level < 8
      below_eight = low at size indexed cursors eight k x next

      goes : get_or on x.level 0 ≡ get_or cursors x.level 0 + 1
      goes = get_or-set_same cursors x.level (get_or cursors x.level 0 + 1) 0 (omega (arith, below_eight))

      stays : (level : ℕ) → (level ≡ x.level → ⊥) → get_or on level 0 ≡ get_or cursors level 0
      stays level other = get_or-set_other cursors x.level level (get_or cursors x.level 0 + 1) 0 other

      -- no cursor goes back
      grows : (level : ℕ) → get_or cursors level 0 ≤ get_or on level 0
      grows level = ⊎_elim
          (λ e. subst (λ l. get_or cursors l 0 ≤ get_or on l 0) (sym e) (omega (arith, goes)))
          (λ other. omega (arith, stays level other))
          (cases_eq level x.level)

      up : (z : State C) → Passed at cursors z → Passed at on z
      up z p = record { level = p.level; below = p.below; place = p.place; past = omega (arith, p.past, grows p.level); is = p.is }

      now_passed : Passed at on x
      now_passed = record { level = x.level; below = below_eight; place = get_or cursors x.level 0; past = omega (arith, goes); is = stood }

      down : (z : State C) → Passed at on z → Passed at cursors z ⊎ (z ≡ x)
      down z p = ⊎_elim
          (λ e.
          let moves : get_or on p.level 0 ≡ get_or cursors p.level 0 + 1 = subst (λ l. get_or on l 0 ≡ get_or cursors l 0 + 1) (sym e) goes in
          ⊎_elim (λ lt. inl (record { level = p.level; below = p.below; place = p.place; past = lt; is = p.is }))
          (λ ge.
          let there : p.place ≡ get_or cursors p.level 0 = omega (arith, p.past) in
          inr (same_some (subst (λ l. at l (get_or cursors l 0) ≡ Some z) e (subst (λ j. at p.level j ≡ Some z) there p.is)) stood))
          (cases_lt p.place (get_or cursors p.level 0)))
          (λ other. inl (record { level = p.level; below = p.below; place = p.place; past = omega (arith, p.past, stays p.level other); is = p.is }))
          (cases_eq p.level x.level)

      -- x comes before all that is left
      leads : (level j : ℕ) (y : State C) → level < 8 → get_or cursors level 0 ≤ j → at level j ≡ Some y → Before k x y
      leads level j y below from is =
          let i = get_or cursors level 0 in
          let w = indexed.filled level j i y is (omega (arith, indexed.short level j y is)) in
          let b = first k (heads_at at cursors) laws (λ l z. indexed.levelled l (get_or cursors l 0) z) 8 (λ l z lt. rising.good l (get_or cursors l 0) z lt) 8 (omega arith) x next level w.0 below w.1 in
          let rise = rising.rises level i j w.0 y below from w.1 is in
          let gx = rising.good x.level (get_or cursors x.level 0) x below_eight stood in
          let gw = rising.good level i w.0 below w.1 in
          let gy = rising.good level j y below is in
          record {
            cheaper = laws.chain x.cost w.0.cost y.cost gx gw gy b.cheaper rise;
            lower = λ t. omega (arith, b.lower (laws.chain w.0.cost y.cost x.cost gw gy gx rise t), indexed.levelled level i w.0 w.1, indexed.levelled level j y is);
          }

      module _ (kept : List (State C)) (m : Merging k at bound cursors kept) where
        keep_keeps : Keeps k Q (keep k bound kept x)
        keep_keeps = cond_by (leb x.load bound) (put k kept x) kept (Keeps k Q)
            (λ light. put_keeps P Q x (λ z p. (up z p.0, p.1)) (now_passed, leb→le x.load bound light)
            (λ z p. ⊎_elim (λ old. inl (old, p.1)) inr (down z p.0))
            (λ z p. m.ordered z p.0 x.level (get_or cursors x.level 0) x below_eight (omega arith) stood)
            (λ z p. rising.good p.0.level p.0.place z p.0.below p.0.is)
            kept m.keeps)
            (λ heavy. keeps_same k P Q kept (λ z p. (up z p.0, p.1))
            (λ z p. ⊎_elim (λ old. (old, p.1)) (λ e. absurd (heavy (le→leb x.load bound (subst (λ (s : State C). s.load ≤ bound) e p.1)))) (down z p.0))
            m.keeps)

        pub merging_on : Merging k at bound on (keep k bound kept x)
        merging_on = record {
          ordered = λ z p level j y below from is.
              let from_old : get_or cursors level 0 ≤ j = omega (arith, grows level) in
              ⊎_elim (λ old. m.ordered z old level j y below from_old is)
              (λ e. subst (λ (s : State C). Before k s y) (sym e) (leads level j y below from_old is))
              (down z p);
          keeps = keep_keeps;
        }

  -- the merge goes on to its end, and what is kept grows no shorter
  pub finish : (n : ℕ) (cursors : List ℕ) (kept : List (State C)) → left size cursors < n → length cursors ≡ 8 → Merging k at bound cursors kept →
      (final : List (State C)) × Keeps k (Candidate at bound) final × (length kept ≤ length final)
  finish zero cursors kept fuel eight m = absurd (omega arith)
  finish (suc n) cursors kept fuel eight m = go (cheapest k (heads_at at cursors) 8) refl (λ x. finish n (moved cursors x.level) (keep k bound kept x)) where
    go : (o : Option (State C)) → cheapest k (heads_at at cursors) 8 ≡ o →
        ((x : State C) → left size (moved cursors x.level) < n → length (moved cursors x.level) ≡ 8 → Merging k at bound (moved cursors x.level) (keep k bound kept x) →
        (final : List (State C)) × Keeps k (Candidate at bound) final × (length (keep k bound kept x) ≤ length final)) →
        (final : List (State C)) × Keeps k (Candidate at bound) final × (length kept ≤ length final)
    go None is rest = (kept, ends cursors eight kept is m, omega arith)
    go (Some x) is rest =
        let r = rest x (omega (arith, left_falls at size indexed cursors eight k x is)) (length-set cursors x.level (get_or cursors x.level 0 + 1) ∙ eight) (merging_on cursors eight x is kept m) in
        (r.0, r.1, omega (arith, r.2, keep_longer k bound kept x))
