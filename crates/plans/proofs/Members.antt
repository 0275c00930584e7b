-- Tests that hold, and what stands in a list that was made from others.
use Rattle.std.proofs.Common.{◌≡◌, ℕ, zero, suc, Bool, true, false, cond, ◌&&◌, ◌||◌, T, ◌⊎◌, List, [], ◌∷◌, ◌++◌, map, reverse, Some, None, filter, Option, sym, refl, ap, subst, inl, inr, ⊎_elim, arith}
use mathlib.Core.List.{reverse_aux}
use Rattle.std.specs.List.{slice_get}
use Rattle.plans.specs.Choices.{In, some, each_with}

pub known : (b : Bool) → T b ⊎ (T b → ⊥)
known true = inl tt
known false = inr (λ h. h)

pub and_in : (x y : Bool) → T x → T y → T (x && y)
and_in true y _ h = h
and_in false y h _ = h

pub and_left : (x y : Bool) → T (x && y) → T x
and_left true y _ = tt
and_left false y h = h

pub and_right : (x y : Bool) → T (x && y) → T y
and_right true y h = h
and_right false y h = absurd h

or_left : (x y : Bool) → T x → T (x || y)
or_left true y _ = tt
or_left false y h = absurd h

or_right : (x y : Bool) → T y → T (x || y)
or_right true y _ = tt
or_right false y h = h

or_out : (x y : Bool) → T (x || y) → T x ⊎ T y
or_out true y _ = inl tt
or_out false y h = inr h

-- what holds on both ways of a test
pub cond_by : {A : Type 0} (b : Bool) (x y : A) (P : A → Type 0) → (T b → P x) → ((T b → ⊥) → P y) → P (cond b x y)
cond_by true x y P f g = f tt
cond_by false x y P f g = g (λ h. h)

pub cond_yes : {A : Type 0} (b : Bool) (x y : A) → T b → cond b x y ≡ x
cond_yes true x y t = refl
cond_yes false x y t = absurd t

pub cond_no : {A : Type 0} (b : Bool) (x y : A) → (T b → ⊥) → cond b x y ≡ y
cond_no true x y n = absurd (n tt)
cond_no false x y n = refl

module _ {X : Type 0} (test : X → Bool) where
  pub some_in : (xs : List X) (x : X) → In x xs → T (test x) → T (some test xs)
  some_in [] x h t = absurd h
  some_in (y ∷ ys) x (inl e) t = or_left (test y) (some test ys) (rw e at t)
  some_in (y ∷ ys) x (inr h) t = or_right (test y) (some test ys) (some_in ys x h t)

  pub some_out : (xs : List X) → T (some test xs) → (x : X) × In x xs × T (test x)
  some_out [] h = absurd h
  some_out (y ∷ ys) h = ⊎_elim (λ t. (y, inl refl, t)) (λ t. let r = some_out ys t in (r.0, inr r.1, r.2)) (or_out (test y) (some test ys) h)

  kept_here : (b : Bool) (y : X) (ys : List X) → T b → In y (cond b (y ∷ ys) ys)
  kept_here true y ys t = inl refl
  kept_here false y ys t = absurd t

  kept_later : (b : Bool) (y : X) (ys : List X) (x : X) → In x ys → In x (cond b (y ∷ ys) ys)
  kept_later true y ys x h = inr h
  kept_later false y ys x h = h

  kept_which : (b : Bool) (y : X) (ys : List X) (x : X) → In x (cond b (y ∷ ys) ys) → ((x ≡ y) × T b) ⊎ In x ys
  kept_which true y ys x (inl e) = inl (e, tt)
  kept_which true y ys x (inr h) = inr h
  kept_which false y ys x h = inr h

  pub kept_in : (xs : List X) (x : X) → In x xs → T (test x) → In x (filter test xs)
  kept_in [] x h t = h
  kept_in (y ∷ ys) x (inl e) t = let u : T (test y) = rw e at t in rw e (kept_here (test y) y (filter test ys) u)
  kept_in (y ∷ ys) x (inr h) t = kept_later (test y) y (filter test ys) x (kept_in ys x h t)

  pub kept_out : (xs : List X) (x : X) → In x (filter test xs) → In x xs × T (test x)
  kept_out [] x h = absurd h
  kept_out (y ∷ ys) x h = ⊎_elim (λ p. (inl p.0, subst (λ (z : X). T (test z)) (sym p.0) p.1)) (λ g. let r = kept_out ys x g in (inr r.0, r.1)) (kept_which (test y) y (filter test ys) x h)

pub none-some : {X : Type 0} {o : Option X} {x : X} → o ≡ None → o ≡ Some x → ⊥
none-some p q = let z : ◌≡◌ {A = ℕ} 0 1 = cc in omega arith

pub same_some : {X : Type 0} {o : Option X} {x y : X} → o ≡ Some x → o ≡ Some y → x ≡ y
same_some p q = cc

module _ {X : Type 0} where
  pub nth_in : (xs : List X) (i : ℕ) (x : X) → slice_get xs i ≡ Some x → In x xs
  nth_in [] i x e = none-some refl e
  nth_in (y ∷ xs) zero x e = inl (same_some e refl)
  nth_in (y ∷ xs) (suc i) x e = inr (nth_in xs i x e)

  pub in_nth : (xs : List X) (x : X) → In x xs → (i : ℕ) × (slice_get xs i ≡ Some x)
  in_nth [] x h = absurd h
  in_nth (y ∷ xs) x (inl e) = (zero, ap Some (sym e))
  in_nth (y ∷ xs) x (inr h) = let r = in_nth xs x h in (suc r.0, r.1)

  -- the only member of a list of one
  pub only : {x y : X} → In x (y ∷ []) → x ≡ y
  only (inl e) = e
  only (inr h) = absurd h

  pub append_left : (xs ys : List X) (x : X) → In x xs → In x (xs ++ ys)
  append_left [] ys x h = absurd h
  append_left (z ∷ zs) ys x (inl e) = inl e
  append_left (z ∷ zs) ys x (inr h) = inr (append_left zs ys x h)

  pub append_right : (xs ys : List X) (x : X) → In x ys → In x (xs ++ ys)
  append_right [] ys x h = h
  append_right (z ∷ zs) ys x h = inr (append_right zs ys x h)

  pub append_out : (xs ys : List X) (x : X) → In x (xs ++ ys) → In x xs ⊎ In x ys
  append_out [] ys x h = inr h
  append_out (z ∷ zs) ys x (inl e) = inl (inl e)
  append_out (z ∷ zs) ys x (inr h) = ⊎_elim (λ g. inl (inr g)) inr (append_out zs ys x h)

  aux_out : (xs ys : List X) (x : X) → In x (reverse_aux xs ys) → In x xs ⊎ In x ys
  aux_out [] ys x h = inr h
  aux_out (z ∷ xs) ys x h = ⊎_elim (λ g. inl (inr g)) (⊎_elim (λ e. inl (inl e)) inr) (aux_out xs (z ∷ ys) x h)

  pub reverse_out : (xs : List X) (x : X) → In x (reverse xs) → In x xs
  reverse_out xs x h = ⊎_elim (λ g. g) (λ n. absurd n) (aux_out xs [] x h)

module _ {X Z : Type 0} (f : X → Z) where
  pub map_in : (xs : List X) (x : X) → In x xs → In (f x) (map f xs)
  map_in [] x h = h
  map_in (y ∷ ys) x (inl e) = inl (ap f e)
  map_in (y ∷ ys) x (inr h) = inr (map_in ys x h)

  pub map_out : (xs : List X) (z : Z) → In z (map f xs) → (x : X) × In x xs × (z ≡ f x)
  map_out [] z h = absurd h
  map_out (y ∷ ys) z (inl e) = (y, inl refl, e)
  map_out (y ∷ ys) z (inr h) = let r = map_out ys z h in (r.0, inr r.1, r.2)

-- a member of a product, and where it comes from
pub record Product {X Y Z : Type 0} (f : X → Y → Z) (xs : List X) (ys : List Y) (z : Z) : Type 0 where
  pub one : X
  pub two : Y
  pub one_in : In one xs
  pub two_in : In two ys
  pub is : z ≡ f one two

module _ {X Y Z : Type 0} (f : X → Y → Z) where
  pub each_in : (xs : List X) (ys : List Y) (x : X) (y : Y) → In x xs → In y ys → In (f x y) (each_with f xs ys)
  each_in [] ys x y h g = absurd h
  each_in (a ∷ rest) ys x y (inl e) g = rw e (append_left (map (f a) ys) (each_with f rest ys) (f a y) (map_in (f a) ys y g))
  each_in (a ∷ rest) ys x y (inr h) g = append_right (map (f a) ys) (each_with f rest ys) (f x y) (each_in rest ys x y h g)

  pub each_out : (xs : List X) (ys : List Y) (z : Z) → In z (each_with f xs ys) → Product f xs ys z
  each_out [] ys z h = absurd h
  each_out (a ∷ rest) ys z h = ⊎_elim
      (λ g. let r = map_out (f a) ys z g in record { one = a; two = r.0; one_in = inl refl; two_in = r.1; is = r.2 })
      (λ g. let r = each_out rest ys z g in record { one = r.one; two = r.two; one_in = inr r.one_in; two_in = r.two_in; is = r.is })
      (append_out (map (f a) ys) (each_with f rest ys) z h)
