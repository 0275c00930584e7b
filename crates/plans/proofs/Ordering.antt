-- Pairs whose costs are totals are ordered by `no_worse`; and lists of them with rising costs and falling loads.
use Rattle.std.proofs.Common.{◌≡◌, ◌<◌, ◌≤◌, T, leb, List, [], ◌∷◌, sym, refl, ap, inl, inr, ⊎_elim, arith, le→leb, leb→le, T_not}
use lib.Dec.{not_T}
use Rattle.cost.specs.Kinds.{Meaning, Total, Laws, NoDearer}
use Rattle.plans.specs.Choices.{In}
use Rattle.plans.specs.Fronts.{Pair, no_worse, same}
use Rattle.plans.specs.Promises.{Ahead, Falls}
use Rattle.plans.proofs.Members.{and_in, and_left, and_right}
use Rattle.plans.proofs.Least.{Order}

abbrev pub Good : {C : Type 0} → Meaning C → Pair C → Type 0
Good k p = Total k p.cost

module _ {C : Type 0} (k : Meaning C) (p q : Pair C) where
  pub no_worse_in : p.load ≤ q.load → NoDearer k p.cost q.cost → T (no_worse k p q)
  no_worse_in h t = and_in (leb p.load q.load) (k.under p.cost q.cost) (le→leb p.load q.load h) t

  pub no_heavier : T (no_worse k p q) → p.load ≤ q.load
  no_heavier t = leb→le p.load q.load (and_left (leb p.load q.load) (k.under p.cost q.cost) t)

  pub no_dearer : T (no_worse k p q) → NoDearer k p.cost q.cost
  no_dearer = and_right (leb p.load q.load) (k.under p.cost q.cost)

  pub same_there : T (same k p q) → T (no_worse k p q)
  same_there = and_left (no_worse k p q) (no_worse k q p)

  pub same_back : T (same k p q) → T (no_worse k q p)
  same_back = and_right (no_worse k p q) (no_worse k q p)

  pub same_in : T (no_worse k p q) → T (no_worse k q p) → T (same k p q)
  same_in = and_in (no_worse k p q) (no_worse k q p)

  -- what is behind in a falling list is not no worse
  pub ahead_apart : Ahead k p q → T (no_worse k p q) → ⊥
  ahead_apart a t = omega (arith, a.lighter, no_heavier t)

  pub ahead_dearer : Ahead k p q → NoDearer k q.cost p.cost → ⊥
  ahead_dearer a = T_not (k.under q.cost p.cost) a.cheaper

module _ {C : Type 0} (k : Meaning C) (laws : Laws k) where
  pub pair_order : Order (no_worse k) (Good k)
  pair_order = record {
    self = λ p g. no_worse_in k p p (omega arith) (⊎_elim (λ h. h) (λ h. h) (laws.either p.cost p.cost g g));
    chain = λ p q r gp gq gr s t. no_worse_in k p r (omega (arith, no_heavier k p q s, no_heavier k q r t)) (laws.chain p.cost q.cost r.cost gp gq gr (no_dearer k p q s) (no_dearer k q r t));
    same = λ p q gp gq s t.
        let l : p.load ≡ q.load = omega (arith, no_heavier k p q s, no_heavier k q p t) in
        let c : p.cost ≡ q.cost = laws.same p.cost q.cost gp gq (no_dearer k p q s) (no_dearer k q p t) in
        λ i. record { load = l i; cost = c i };
  }

  module _ (p q : Pair C) (gp : Good k p) (gq : Good k q) where
    pub same_pair : T (same k p q) → p ≡ q
    same_pair t = pair_order.same p q gp gq (same_there k p q t) (same_back k p q t)

    pub ahead_under : Ahead k p q → NoDearer k p.cost q.cost
    ahead_under a = ⊎_elim (λ h. h) (λ h. absurd (ahead_dearer k p q a h)) (laws.either p.cost q.cost gp gq)

    -- a pair that is no cheaper and lighter than one behind p is behind p too
    pub ahead_more : (r : Pair C) → Good k r → Ahead k p q → NoDearer k q.cost r.cost → r.load < q.load → Ahead k p r
    ahead_more r gr a t light = record {
      cheaper = not_T (k.under r.cost p.cost) (λ s. ahead_dearer k p q a (laws.chain q.cost r.cost p.cost gq gr gp t s));
      lighter = omega (arith, a.lighter);
    }

    pub ahead_chain : (r : Pair C) → Good k r → Ahead k p q → Ahead k q r → Ahead k p r
    ahead_chain r gr a b = record {
      cheaper = not_T (k.under r.cost p.cost) (λ h. ahead_dearer k q r b (laws.chain r.cost p.cost q.cost gr gp gq h (ahead_under a)));
      lighter = omega (arith, a.lighter, b.lighter);
    }

-- two falling lists with the same members are equal
pub one_list : {C : Type 0} (k : Meaning C) (xs ys : List (Pair C)) → Falls k xs → Falls k ys → ((x : Pair C) → In x xs → In x ys) → ((x : Pair C) → In x ys → In x xs) → xs ≡ ys
one_list k [] [] fx fy a b = refl
one_list k [] (y ∷ ys) fx fy a b = absurd (b y (inl refl))
one_list k (x ∷ xs) [] fx fy a b = absurd (a x (inl refl))
one_list {C} k (x ∷ xs) (y ∷ ys) fx fy a b =
    let e : x ≡ y = ⊎_elim (λ e. e) (λ h. ⊎_elim sym (λ g. absurd (omega (arith, (fy.0 x h).lighter, (fx.0 y g).lighter))) (b y (inl refl))) (a x (inl refl)) in
    let d : x.load ≡ y.load = ap (λ (p : Pair C). p.load) e in
    let t : xs ≡ ys = one_list k xs ys fx.1 fy.1
    (λ z h. ⊎_elim (λ ez. absurd (omega (arith, (fx.0 z h).lighter, ap (λ (p : Pair C). p.load) ez))) (λ g. g) (a z (inr h)))
    (λ z h. ⊎_elim (λ ez. absurd (omega (arith, (fy.0 z h).lighter, ap (λ (p : Pair C). p.load) ez))) (λ g. g) (b z (inr h))) in
    cc
