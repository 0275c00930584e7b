-- What is kept of all open extensions of a front, the last one in front, is the next front's stretch of the list back to front.
use Rattle.std.proofs.Common.{◌≡◌, ℕ, ◌+◌, ◌≤◌, T, List, [], ◌∷◌, ◌++◌, map, reverse, length, Some, sym, refl, ap, ◌∙◌, subst, inl, inr, ⊎_elim, arith}
use mathlib.Core.List.{reverse-cons}
use Rattle.std.specs.List.{slice_get}
use Rattle.std.proofs.lemmas.List.{map_push}
use Rattle.cost.specs.Kinds.{Meaning, most_entries, Laws}
use Rattle.plans.specs.declared.states.State.{State}
use Rattle.plans.specs.Choices.{In, Offer, Row, each_with}
use Rattle.plans.specs.Fronts.{Pair, step, no_worse, same, front}
use Rattle.plans.specs.Places.{completed, placed, next_places}
use Rattle.plans.specs.Promises.{Priced, Ahead, Falls, admits, extended}
use Rattle.plans.proofs.Members.{kept_in, kept_out, each_in, each_out, map_in, map_out, append_left, append_right, append_out, only, nth_in, in_nth, reverse_out}
use Rattle.plans.proofs.Least.{Least}
use Rattle.plans.proofs.Ordering.{Good, no_heavier, same_there, same_back, same_in, pair_order}
use Rattle.plans.proofs.Sorting.{pareto_is}
use Rattle.plans.proofs.Reaching.{front_falls}
use Rattle.plans.proofs.Stepping.{extended_good, front_from_front}
use Rattle.plans.proofs.Sources.{Climbs, Completes, completed_at}
use Rattle.plans.proofs.Candidates.{pair_of, Stacked, Covers, Keeps, stacked_same}

-- the candidate that an offer makes of a pair that stands at a position
abbrev pub candidate : {C : Type 0} → Meaning C → Offer C → Pair C → ℕ → State C
candidate k o q position = record { load = q.load + o.load; cost = k.plus q.cost o.entry; level = o.level; position = position }

-- x is an open extension, by an offer of the row, of a front whose first pair stands at the position `base`
pub record Extension {C : Type 0} (k : Meaning C) (row : Row C) (later : List (Row C)) (base : ℕ) (before : List (Pair C)) (x : State C) : Type 0 where
  pub offer : Offer C
  pub offer_in : In offer row.offers
  pub index : ℕ
  pub from : Pair C
  pub stands : slice_get before index ≡ Some from
  pub is : x ≡ candidate k offer from (base + index)
  pub room : T (admits row later x.load)

module _ {X : Type 0} where
  reverse_in : (xs : List X) (x : X) → In x xs → In x (reverse xs)
  reverse_in [] x h = h
  reverse_in (y ∷ xs) x (inl e) = subst (In x) (sym (reverse-cons y xs)) (append_right (reverse xs) (y ∷ []) x (inl e))
  reverse_in (y ∷ xs) x (inr h) = subst (In x) (sym (reverse-cons y xs)) (append_left (reverse xs) (y ∷ []) x (reverse_in xs x h))

  map_same : (f : X → X) (xs : List X) → ((x : X) → In x xs → f x ≡ x) → map f xs ≡ xs
  map_same f [] same = refl
  map_same f (x ∷ xs) same = let here = same x (inl refl) in let rest = map_same f xs (λ y h. same y (inr h)) in cc

map_map : {X Y Z : Type 0} (f : X → Y) (g : Y → Z) (xs : List X) → map g (map f xs) ≡ map (λ x. g (f x)) xs
map_map f g [] = refl
map_map f g (x ∷ xs) = ap (λ l. g (f x) ∷ l) (map_map f g xs)

module _ {C : Type 0} (k : Meaning C) where
  falls_push : (ps : List (Pair C)) (q : Pair C) → Falls k ps → ((p : Pair C) → In p ps → Ahead k p q) → Falls k (ps ++ q ∷ [])
  falls_push [] q f a = (λ p h. absurd h, tt)
  falls_push (p ∷ ps) q f a = (
    λ r h. ⊎_elim (f.0 r) (λ g. subst (Ahead k p) (sym (only g)) (a p (inl refl))) (append_out ps (q ∷ []) r h),
    falls_push ps q f.1 (λ r h. a r (inr h)),
  )

  stacked_falls : (kept : List (State C)) → Stacked k kept → Falls k (map pair_of (reverse kept))
  stacked_falls [] s = tt
  stacked_falls (x ∷ kept) s =
      subst (Falls k) (sym (ap (map pair_of) (reverse-cons x kept) ∙ map_push pair_of (reverse kept) x))
      (falls_push (map pair_of (reverse kept)) (pair_of x) (stacked_falls kept s.1)
      (λ p h. let m = map_out pair_of (reverse kept) p h in subst (λ (r : Pair C). Ahead k r (pair_of x)) (sym m.2) (s.0 m.0 (reverse_out kept m.0 m.1))))

module _ {C : Type 0} (k : Meaning C) (laws : Laws k) (row : Row C) (done later : List (Row C)) (few : length (row ∷ done) ≤ most_entries) (priced : Priced k (row ∷ done)) (base : ℕ) where
  abbrev before : List (Pair C)
  before = front k done (row ∷ later)

  abbrev wider : List (Pair C)
  wider = extended k row later before

  abbrev P : State C → Type 0
  P = Extension k row later base before

  -- an open extension is a candidate, and its cost a total
  extension_in : (x : State C) → P x → In (pair_of x) wider
  extension_in x e =
      let is : pair_of x ≡ step k e.from e.offer = ap pair_of e.is in
      kept_in (λ (p : Pair C). admits row later p.load) (each_with (step k) before row.offers) (pair_of x)
      (subst (λ (p : Pair C). In p (each_with (step k) before row.offers)) (sym is) (each_in (step k) before row.offers e.from e.offer (nth_in before e.index e.from e.stands) e.offer_in)) e.room

  pub extension_good : (x : State C) → P x → Good k (pair_of x)
  extension_good x e = extended_good k laws row done later few priced (pair_of x) (extension_in x e)

  extension_out : (p : Pair C) → In p wider → (x : State C) × P x × (p ≡ pair_of x)
  extension_out p h =
      let a = kept_out (λ (q : Pair C). admits row later q.load) (each_with (step k) before row.offers) p h in
      let e = each_out (step k) before row.offers p a.0 in
      let n = in_nth before e.one e.one_in in (
        candidate k e.two e.one (base + n.0),
        record { offer = e.two; offer_in = e.two_in; index = n.0; from = e.one; stands = n.1; is = refl; room = subst (λ (q : Pair C). T (admits row later q.load)) e.is a.1 },
        e.is,
      )

  module _ (climbs : Climbs row.offers) (kept : List (State C)) (keeps : Keeps k P kept) where
    -- what covers an extension that is no worse than a kept one is that one
    covered_by : (x z : State C) → In x kept → P z → T (no_worse k (pair_of z) (pair_of x)) → Covers k x z
    covered_by x z i e t =
        let c = keeps.cover z e in
        let y = c.0 in
        let gx = extension_good x (keeps.sound x i) in
        let gy = extension_good y (keeps.sound y c.1) in
        let over = (pair_order k laws).chain (pair_of y) (pair_of z) (pair_of x) gy (extension_good z e) gx c.2.below t in
        subst (λ (a : State C). Covers k a z) (stacked_same k kept keeps.stacked x y i c.1 over) c.2

    kept_least : (p : Pair C) → In p (map pair_of (reverse kept)) → Least (no_worse k) wider p
    kept_least p h =
        let m = map_out pair_of (reverse kept) p h in
        let x = m.0 in
        let i = reverse_out kept x m.1 in
        subst (Least (no_worse k) wider) (sym m.2) (record {
          stands = extension_in x (keeps.sound x i);
          unbeaten = λ q j t. let e = extension_out q j in
              subst (λ (r : Pair C). T (no_worse k (pair_of x) r)) (sym e.2) (covered_by x e.0 i e.1 (subst (λ (r : Pair C). T (no_worse k r (pair_of x))) e.2 t)).below;
        })

    least_kept : (p : Pair C) → Least (no_worse k) wider p → In p (map pair_of (reverse kept))
    least_kept p m =
        let e = extension_out p m.stands in
        let c = keeps.cover e.0 e.1 in
        let y = c.0 in
        let py = keeps.sound y c.1 in
        let under : T (no_worse k (pair_of y) p) = subst (λ (r : Pair C). T (no_worse k (pair_of y) r)) (sym e.2) c.2.below in
        let is = (pair_order k laws).same (pair_of y) p (extension_good y py) (extended_good k laws row done later few priced p m.stands) under (m.unbeaten (pair_of y) (extension_in y py) under) in
        subst (λ (r : Pair C). In r (map pair_of (reverse kept))) is (map_in pair_of (reverse kept) y (reverse_in kept y c.1))

    pub kept_front : map pair_of (reverse kept) ≡ front k (row ∷ done) later
    kept_front =
        pareto_is k laws wider (extended_good k laws row done later few priced) (map pair_of (reverse kept)) (stacked_falls k kept keeps.stacked) kept_least least_kept
        ∙ sym (front_from_front k laws row done later few priced)

    -- a kept one has the lowest level that makes its pair, and the position of the pair that it continues
    kept_place : (x : State C) → In x kept → placed base (pair_of x) (completed k (pair_of x) before row.offers) ≡ x
    kept_place x i =
        let e = keeps.sound x i in
        let o = e.offer in
        let p = pair_of x in
        let self = (pair_order k laws).self p (extension_good x e) in
        let hit : Completes k p o e.from = subst (λ (r : Pair C). T (same k r p)) (ap pair_of e.is) (same_in k p p self self) in
        let found = completed_at k p before row.offers o e.index e.from (front_falls k laws done (row ∷ later) (omega arith) (λ r h. priced r (inr h))) climbs e.offer_in e.stands hit
        (λ a j lower q h t.
        let n = in_nth before q h in
        let z = candidate k a q (base + n.0) in
        let there = same_there k (step k q a) p t in
        let back = same_back k (step k q a) p t in
        let level : x.level ≡ o.level = ap (λ (s : State C). s.level) e.is in
        let weight : q.load + a.load ≡ x.load = omega (arith, no_heavier k (step k q a) p there, no_heavier k p (step k q a) back) in
        let room : T (admits row later (q.load + a.load)) = subst (λ (m : ℕ). T (admits row later m)) (sym weight) e.room in
        omega (arith, (covered_by x z i (record { offer = a; offer_in = j; index = n.0; from = q; stands = n.1; is = refl; room = room }) there).lower there)) in
        let levels : o.level ≡ x.level = ap (λ (s : State C). s.level) (sym e.is) in
        let positions : base + e.index ≡ x.position = ap (λ (s : State C). s.position) (sym e.is) in
        ap (placed base p) found ∙ (λ n. record { load = x.load; cost = x.cost; level = levels n; position = positions n })

    -- the code owes no more: what it kept is the stretch of the list
    pub kept_is_next : reverse kept ≡ next_places k base row done later
    kept_is_next =
        sym (map_same (λ x. placed base (pair_of x) (completed k (pair_of x) before row.offers)) (reverse kept) (λ x h. kept_place x (reverse_out kept x h)))
        ∙ sym (map_map pair_of (λ p. placed base p (completed k p before row.offers)) (reverse kept))
        ∙ ap (map (λ p. placed base p (completed k p before row.offers))) kept_front
