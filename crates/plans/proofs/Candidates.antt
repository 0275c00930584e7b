-- A merge takes candidates for a front, from the cheapest on, and keeps some, the last one in front: one candidate more is dropped, takes the
-- place of the last one kept, or is kept behind it.
use Rattle.std.proofs.Common.{◌≡◌, ◌<◌, ◌≤◌, T, ◌⊎◌, List, [], ◌∷◌, sym, refl, subst, inl, inr, ⊎_elim, arith}
use lib.Dec.{not_T}
use Rattle.cost.specs.Kinds.{Meaning, Total, Laws, NoDearer}
use Rattle.plans.specs.declared.states.State.{State}
use Rattle.plans.specs.Choices.{In}
use Rattle.plans.specs.Fronts.{Pair, no_worse}
use Rattle.plans.specs.Promises.{Ahead}
use Rattle.plans.proofs.Ordering.{no_worse_in, no_heavier, no_dearer, pair_order, ahead_apart, ahead_dearer, ahead_more}

abbrev pub pair_of : {C : Type 0} → State C → Pair C
pair_of x = record { load = x.load; cost = x.cost }

module _ {C : Type 0} (k : Meaning C) where
  -- each is dearer and lighter than those behind it
  abbrev pub Stacked : List (State C) → Type 0
  Stacked [] = Unit {0}
  Stacked (x ∷ kept) = ((y : State C) → In y kept → Ahead k (pair_of y) (pair_of x)) × Stacked kept

  -- y is no worse than x, and of no higher level if it is the same pair
  pub record Covers (y x : State C) : Type 0 where
    pub below : T (no_worse k (pair_of y) (pair_of x))
    pub lower : T (no_worse k (pair_of x) (pair_of y)) → y.level ≤ x.level

  -- y comes no later than x: it is no dearer, and of no higher level at equal cost
  pub record Before (y x : State C) : Type 0 where
    pub cheaper : NoDearer k y.cost x.cost
    pub lower : NoDearer k x.cost y.cost → y.level ≤ x.level

  -- what is kept of the candidates P that came so far: some of them, such that each is covered
  pub record Keeps (P : State C → Type 0) (kept : List (State C)) : Type 0 where
    pub stacked : Stacked kept
    pub sound : (x : State C) → In x kept → P x
    pub cover : (x : State C) → P x → (y : State C) × In y kept × Covers y x

  pub keeps_same : (P Q : State C → Type 0) (kept : List (State C)) → ((x : State C) → P x → Q x) → ((x : State C) → Q x → P x) → Keeps P kept → Keeps Q kept
  keeps_same P Q kept up down h = record { stacked = h.stacked; sound = λ x i. up x (h.sound x i); cover = λ x m. h.cover x (down x m) }

  -- of two that are kept, none is no worse than the other
  pub stacked_same : (kept : List (State C)) → Stacked kept → (x y : State C) → In x kept → In y kept → T (no_worse k (pair_of y) (pair_of x)) → y ≡ x
  stacked_same [] s x y i j t = absurd i
  stacked_same (z ∷ kept) s x y (inl e) (inl f) t = cc
  stacked_same (z ∷ kept) s x y (inl e) (inr j) t = absurd (ahead_apart k (pair_of y) (pair_of x) (subst (λ (a : State C). Ahead k (pair_of y) (pair_of a)) (sym e) (s.0 y j)) t)
  stacked_same (z ∷ kept) s x y (inr i) (inl f) t = absurd (ahead_dearer k (pair_of x) (pair_of y) (subst (λ (a : State C). Ahead k (pair_of x) (pair_of a)) (sym f) (s.0 x i)) (no_dearer k (pair_of y) (pair_of x) t))
  stacked_same (z ∷ kept) s x y (inr i) (inr j) t = stacked_same kept s.1 x y i j t

  -- one candidate more: Q are the candidates P and x, and none of P comes later than x
  module _ (laws : Laws k) (P Q : State C → Type 0) (x : State C) (up : (y : State C) → P y → Q y) (here : Q x) (down : (y : State C) → Q y → P y ⊎ (y ≡ x))
      (before : (y : State C) → P y → Before y x) (good : (y : State C) → Q y → Total k y.cost) where
    covers_self : Covers x x
    covers_self = record { below = (pair_order k laws).self (pair_of x) (good x here); lower = λ _. omega arith }

    -- a new list covers x, and what was covered still is
    covering : (kept : List (State C)) (y : State C) → In y kept → Covers y x → ((z : State C) → P z → (w : State C) × In w kept × Covers w z) → (z : State C) → Q z → (w : State C) × In w kept × Covers w z
    covering kept y i c old z q = ⊎_elim (old z) (λ e. (y, i, subst (Covers y) (sym e) c)) (down z q)

    -- x and what was kept of P
    sound_on : (kept : List (State C)) → ((y : State C) → In y kept → P y) → (y : State C) → In y (x ∷ kept) → Q y
    sound_on kept old y (inl e) = subst Q (sym e) here
    sound_on kept old y (inr i) = up y (old y i)

    pub keep_first : Keeps P [] → Keeps Q (x ∷ [])
    keep_first h = record {
      stacked = (λ y i. absurd i, tt);
      sound = sound_on [] h.sound;
      cover = covering (x ∷ []) x (inl refl) covers_self (λ z p. absurd (h.cover z p).1);
    }

    module _ (q : State C) (kept : List (State C)) (h : Keeps P (q ∷ kept)) where
      order : Before q x
      order = before q (h.sound q (inl refl))

      good_old : (y : State C) → In y (q ∷ kept) → Total k y.cost
      good_old y i = good y (up y (h.sound y i))

      behind : x.load < q.load → (y : State C) → In y kept → Ahead k (pair_of y) (pair_of x)
      behind light y i = ahead_more k laws (pair_of y) (pair_of q) (good_old y (inr i)) (good_old q (inl refl)) (pair_of x) (good x here) (h.stacked.0 y i) order.cheaper light

      -- it is no lighter than the last one kept
      pub keep_drop : q.load ≤ x.load → Keeps Q (q ∷ kept)
      keep_drop heavy = record {
        stacked = h.stacked;
        sound = λ y i. up y (h.sound y i);
        cover = covering (q ∷ kept) q (inl refl) (record { below = no_worse_in k (pair_of q) (pair_of x) heavy order.cheaper; lower = λ t. order.lower (no_dearer k (pair_of x) (pair_of q) t) }) h.cover;
      }

      -- it is lighter, and no dearer
      pub keep_replace : x.load < q.load → NoDearer k x.cost q.cost → Keeps Q (x ∷ kept)
      keep_replace light tie = record {
        stacked = (behind light, h.stacked.1);
        sound = sound_on kept (λ y i. h.sound y (inr i));
        cover = covering (x ∷ kept) x (inl refl) covers_self (λ z p. let c = h.cover z p in still z (up z p) c.0 c.1 c.2);
      } where
        below : T (no_worse k (pair_of x) (pair_of q))
        below = no_worse_in k (pair_of x) (pair_of q) (omega arith) tie

        still : (z : State C) → Q z → (y : State C) → In y (q ∷ kept) → Covers y z → (w : State C) × In w (x ∷ kept) × Covers w z
        still z m y (inl e) c =
            let over : T (no_worse k (pair_of q) (pair_of z)) = subst (λ (a : State C). T (no_worse k (pair_of a) (pair_of z))) e c.below in (
              x,
              inl refl,
              record {
                below = (pair_order k laws).chain (pair_of x) (pair_of q) (pair_of z) (good x here) (good_old q (inl refl)) (good z m) below over;
                lower = λ t. absurd (omega (arith, no_heavier k (pair_of z) (pair_of x) t, no_heavier k (pair_of q) (pair_of z) over));
              },
            )
        still z m y (inr i) c = (y, inr i, c)

      -- it is lighter and dearer
      pub keep_push : x.load < q.load → (NoDearer k x.cost q.cost → ⊥) → Keeps Q (x ∷ q ∷ kept)
      keep_push light dearer = record {
        stacked = (λ y i. ⊎_elim (λ e. subst (λ (a : State C). Ahead k (pair_of a) (pair_of x)) (sym e) (record { cheaper = not_T (k.under x.cost q.cost) dearer; lighter = light })) (behind light y) i, h.stacked);
        sound = sound_on (q ∷ kept) h.sound;
        cover = covering (x ∷ q ∷ kept) x (inl refl) covers_self (λ z p. let c = h.cover z p in (c.0, inr c.1, c.2));
      }
