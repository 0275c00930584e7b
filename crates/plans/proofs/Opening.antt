-- When a beginning is open.
use Rattle.std.proofs.Common.{◌≡◌, ℕ, ◌+◌, ◌≤◌, true, ◌&&◌, T, leb, List, [], ◌∷◌, refl, ap, inl, inr, ⊎_elim, arith, le→leb, leb→le}
use Rattle.std.proofs.lemmas.Bool.{cases_lt}
use Rattle.plans.specs.Choices.{In, Offer, Row, Taken, taken, load, keeps, smallest, fits, open_to}
use Rattle.plans.specs.Promises.{admits, bound}
use Rattle.plans.proofs.Members.{and_in, and_left, and_right, only}

module _ {C : Type 0} where
  -- no offer is lighter than the smallest
  pub smallest_in : (os : List (Offer C)) (o : Offer C) → In o os → smallest os ≤ o.load
  smallest_in [] o h = absurd h
  smallest_in (p ∷ []) o h = omega (arith, ap (λ (x : Offer C). x.load) (only h))
  smallest_in (p ∷ (q ∷ os)) o (inl e) = omega (arith, ap (λ (x : Offer C). x.load) e)
  smallest_in (p ∷ (q ∷ os)) o (inr h) = omega (arith, smallest_in (q ∷ os) o h)

  -- where there is an offer, one has the smallest load
  pub smallest_of : (os : List (Offer C)) (o : Offer C) → In o os → (p : Offer C) × In p os × (p.load ≡ smallest os)
  smallest_of [] o h = absurd h
  smallest_of (a ∷ []) o h = (a, inl refl, refl)
  smallest_of (a ∷ (b ∷ os)) o h =
      let r = smallest_of (b ∷ os) b (inl refl) in
      ⊎_elim (λ lt. (a, inl refl, omega (arith, r.2))) (λ ge. (r.0, inr r.1, omega (arith, r.2))) (cases_lt a.load (smallest (b ∷ os)))

  -- what fits after a sum fits after a smaller one
  fits_lighter : (later : List (Row C)) (m n : ℕ) → m ≤ n → T (fits n later) → T (fits m later)
  fits_lighter [] m n h t = tt
  fits_lighter (r ∷ later) m n h t =
      let s = smallest r.offers in
      let a = and_left (leb (n + s) r.limit) (fits (n + s) later) t in
      let b = and_right (leb (n + s) r.limit) (fits (n + s) later) t in
      and_in (leb (m + s) r.limit) (fits (m + s) later) (le→leb (m + s) r.limit (omega (arith, leb→le (n + s) r.limit a))) (fits_lighter later (m + s) (n + s) (omega arith) b)

  pub admits_lighter : (row : Row C) (later : List (Row C)) (m n : ℕ) → m ≤ n → T (admits row later n) → T (admits row later m)
  admits_lighter row later m n h t =
      and_in (leb m row.limit) (fits m later) (le→leb m row.limit (omega (arith, leb→le n row.limit (and_left (leb n row.limit) (fits n later) t)))) (fits_lighter later m n h (and_right (leb n row.limit) (fits n later) t))

  module _ (later : List (Row C)) (b : List (Taken C)) where
    pub open_keeps : T (open_to later b) → T (keeps b)
    open_keeps = and_left (keeps b) (fits (load b) later)

    pub open_fits : T (open_to later b) → T (fits (load b) later)
    open_fits = and_right (keeps b) (fits (load b) later)

  -- a beginning of one row more is open exactly if it kept its limits and the row admits the new sum
  module _ (row : Row C) (later : List (Row C)) (b : List (Taken C)) (o : Offer C) where
    pub open_in : T (keeps b) → T (admits row later (load b + o.load)) → T (open_to later (taken row b o))
    open_in t a =
        let n = load b + o.load in
        and_in (keeps b && leb n row.limit) (fits n later) (and_in (keeps b) (leb n row.limit) t (and_left (leb n row.limit) (fits n later) a)) (and_right (leb n row.limit) (fits n later) a)

    pub open_admits : T (open_to later (taken row b o)) → T (admits row later (load b + o.load))
    open_admits t =
        let n = load b + o.load in
        and_in (leb n row.limit) (fits n later) (and_right (keeps b) (leb n row.limit) (open_keeps later (taken row b o) t)) (open_fits later (taken row b o) t)

    -- the first rows of an open beginning are one
    pub prefix_open : In o row.offers → T (open_to later (taken row b o)) → T (open_to (row ∷ later) b)
    prefix_open h t =
        let s = smallest row.offers in
        and_in (keeps b) (fits (load b) (row ∷ later)) (and_left (keeps b) (leb (load b + o.load) row.limit) (open_keeps later (taken row b o) t))
        (admits_lighter row later (load b + s) (load b + o.load) (omega (arith, smallest_in row.offers o h)) (open_admits t))

  -- where a row admits a sum at all, it admits just those up to the bound
  pub bound_exact : (row : Row C) (later : List (Row C)) (m : ℕ) → T (admits row later m) → (n : ℕ) → (T (admits row later n) → n ≤ bound row later) × (n ≤ bound row later → T (admits row later n))
  bound_exact row [] m t n = ((λ u. leb→le n row.limit (and_left (leb n row.limit) true u)), (λ h. and_in (leb n row.limit) true (le→leb n row.limit h) tt))
  bound_exact row (next ∷ later) m t n =
      let s = smallest next.offers in
      let rest = and_right (leb m row.limit) (admits next later (m + s)) t in
      let least = (bound_exact next later (m + s) rest (m + s)).0 rest in
      let on = bound_exact next later (m + s) rest (n + s) in (
        (λ u. omega (arith, leb→le n row.limit (and_left (leb n row.limit) (admits next later (n + s)) u), on.0 (and_right (leb n row.limit) (admits next later (n + s)) u))),
        (λ h. and_in (leb n row.limit) (admits next later (n + s)) (le→leb n row.limit (omega arith)) (on.1 (omega arith))),
      )
