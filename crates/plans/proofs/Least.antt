-- What is least in a list, by a test `le` that is an order on the values of `G`.
use Rattle.std.proofs.Common.{◌≡◌, Bool, not, ◌&&◌, T, ◌⊎◌, List, [], ◌∷◌, filter, sym, refl, subst, inl, inr, ⊎_elim, T_not}
use lib.Dec.{not_T}
use Rattle.plans.specs.Choices.{In, some}
use Rattle.plans.proofs.Members.{known, and_in, and_left, and_right, some_in, some_out, kept_in, kept_out}

pub record Order {X : Type 0} (le : X → X → Bool) (G : X → Type 0) : Type 0 where
  pub self : (x : X) → G x → T (le x x)
  pub chain : (x y z : X) → G x → G y → G z → T (le x y) → T (le y z) → T (le x z)
  pub same : (x y : X) → G x → G y → T (le x y) → T (le y x) → x ≡ y

-- p stands in the list, and what is below it there is no other
pub record Least {X : Type 0} (le : X → X → Bool) (xs : List X) (p : X) : Type 0 where
  pub stands : In p xs
  pub unbeaten : (q : X) → In q xs → T (le q p) → T (le p q)

-- a least one below x
pub record Cover {X : Type 0} (le : X → X → Bool) (xs : List X) (x : X) : Type 0 where
  pub by : X
  pub below : T (le by x)
  pub least : Least le xs by

-- the filter over the whole list keeps just the least ones
module _ {X : Type 0} (le : X → X → Bool) where
  abbrev beaten : X → X → Bool
  beaten p q = le q p && not (le p q)

  pub filtered_in : (xs : List X) (p : X) → Least le xs p → In p (filter (λ x. not (some (beaten x) xs)) xs)
  filtered_in xs p m = kept_in (λ x. not (some (beaten x) xs)) xs p m.stands (not_T (some (beaten p) xs) (λ t.
      let r = some_out (beaten p) xs t in
      T_not (le p r.0) (and_right (le r.0 p) (not (le p r.0)) r.2) (m.unbeaten r.0 r.1 (and_left (le r.0 p) (not (le p r.0)) r.2))))

  pub filtered_out : (xs : List X) (p : X) → In p (filter (λ x. not (some (beaten x) xs)) xs) → Least le xs p
  filtered_out xs p h =
      let r = kept_out (λ x. not (some (beaten x) xs)) xs p h in
      record {
        stands = r.0;
        unbeaten = λ q g t. ⊎_elim (λ y. y) (λ n. absurd (T_not (some (beaten p) xs) r.1 (some_in (beaten p) xs q g (and_in (le q p) (not (le p q)) t (not_T (le p q) n))))) (known (le p q));
      }

module _ {X : Type 0} {le : X → X → Bool} {G : X → Type 0} (order : Order le G) where
  -- a descent through the list from m
  record Descent (m : X) (zs : List X) : Type 0 where
    to : X
    good : G to
    below : T (le to m)
    where_from : (to ≡ m) ⊎ In to zs
    unbeaten : (z : X) → In z zs → T (le z to) → T (le to z)

  descend : (zs : List X) (m : X) → G m → ((z : X) → In z zs → G z) → Descent m zs
  descend [] m g all = record { to = m; good = g; below = order.self m g; where_from = inl refl; unbeaten = λ z h t. absurd h }
  descend (z ∷ zs) m g all = ⊎_elim
      (λ lower.
      let gz = all z (inl refl) in
      let d = descend zs z gz (λ y h. all y (inr h)) in
      record {
        to = d.to;
        good = d.good;
        below = order.chain d.to z m d.good gz g d.below lower;
        where_from = inr d.where_from;
        unbeaten = λ y h t. ⊎_elim (λ e. subst (λ (x : X). T (le d.to x)) (sym e) d.below) (λ i. d.unbeaten y i t) h;
      })
      (λ apart.
      let d = descend zs m g (λ y h. all y (inr h)) in
      record {
        to = d.to;
        good = d.good;
        below = d.below;
        where_from = ⊎_elim inl (λ h. inr (inr h)) d.where_from;
        unbeaten = λ y h t. ⊎_elim (λ e. absurd (apart (order.chain z d.to m (all z (inl refl)) d.good g (subst (λ (x : X). T (le x d.to)) e t) d.below))) (λ i. d.unbeaten y i t) h;
      })
      (known (le z m))

  -- each of a list is covered by a least one
  pub cover : (xs : List X) → ((x : X) → In x xs → G x) → (x : X) → In x xs → Cover le xs x
  cover xs all x h =
      let d = descend xs x (all x h) all in
      record { by = d.to; below = d.below; least = record { stands = ⊎_elim (λ e. subst (λ (y : X). In y xs) (sym e) h) (λ i. i) d.where_from; unbeaten = d.unbeaten } }

  -- where some of a list are below all of it, both have the same least ones
  module _ (xs ys : List X) (all : (x : X) → In x xs → G x) (part : (y : X) → In y ys → In y xs) (below : (x : X) → In x xs → (y : X) × In y ys × T (le y x)) where
    pub least_part : (p : X) → Least le xs p → Least le ys p
    least_part p m =
        let b = below p m.stands in
        let inside = part b.0 b.1 in
        let e = order.same b.0 p (all b.0 inside) (all p m.stands) b.2 (m.unbeaten b.0 inside b.2) in
        record { stands = subst (λ (x : X). In x ys) e b.1; unbeaten = λ q h t. m.unbeaten q (part q h) t }

    pub least_whole : (p : X) → Least le ys p → Least le xs p
    least_whole p m =
        let gp = all p (part p m.stands) in
        record {
          stands = part p m.stands;
          unbeaten = λ q h t.
              let b = below q h in
              let gb = all b.0 (part b.0 b.1) in
              order.chain p b.0 q gp gb (all q h) (m.unbeaten b.0 b.1 (order.chain b.0 q p gb (all q h) gp b.2 t)) b.2;
        }
