-- The candidates that a row's offers make of a front, level by level; what a merge keeps of them is the next front's stretch of the list.
use Rattle.std.proofs.Common.{◌≡◌, ℕ, zero, suc, ◌+◌, ◌<◌, ◌≤◌, T, List, [], ◌∷◌, reverse, length, get_or, Some, None, Option, sym, refl, ap, ◌∙◌, subst, inl, inr, ⊎_elim, arith}
use Rattle.std.specs.List.{slice_get}
use Rattle.std.proofs.lemmas.Option.{slice_get-get_or, slice_get_past}
use Rattle.std.proofs.lemmas.Bool.{cases_lt}
use Rattle.cost.specs.Kinds.{Meaning, most_entries, Sum, Total, Laws, NoDearer}
use Rattle.plans.specs.declared.states.State.{State}
use Rattle.plans.specs.Choices.{In, Offer, Row}
use Rattle.plans.specs.Fronts.{Pair, front}
use Rattle.plans.specs.Places.{next_places}
use Rattle.plans.specs.Promises.{Priced, Ahead, Falls, admits}
use Rattle.plans.proofs.Members.{none-some, same_some, nth_in}
use Rattle.plans.proofs.Ordering.{ahead_under}
use Rattle.plans.proofs.Reaching.{front_falls}
use Rattle.plans.proofs.Stepping.{sum_before, step_good}
use Rattle.plans.proofs.Sources.{Climbs}
use Rattle.plans.proofs.Candidates.{Keeps, keeps_same}
use Rattle.plans.proofs.Following.{Extension, kept_is_next}
use Rattle.fronts.specs.Merging.{sum_of, state_of, stepped, head_at}
use Rattle.fronts.proofs.Turns.{Indexed, Rising}
use Rattle.fronts.proofs.Passing.{Candidate}

pub nth_below : {X : Type 0} (xs : List X) (i : ℕ) (x : X) → slice_get xs i ≡ Some x → i < length xs
nth_below xs i x e = ⊎_elim (λ lt. lt) (λ ge. absurd (none-some (slice_get_past xs i ge) e)) (cases_lt i (length xs))

falls_nth : {C : Type 0} (k : Meaning C) (ps : List (Pair C)) (i j : ℕ) (p q : Pair C) → Falls k ps → i < j → slice_get ps i ≡ Some p → slice_get ps j ≡ Some q → Ahead k p q
falls_nth k [] i j p q f lt e g = absurd (none-some refl e)
falls_nth k (r ∷ ps) zero zero p q f lt e g = absurd (omega arith)
falls_nth {C} k (r ∷ ps) zero (suc j) p q f lt e g = subst (λ (s : Pair C). Ahead k s q) (same_some refl e) (f.0 q (nth_in ps j q g))
falls_nth k (r ∷ ps) (suc i) zero p q f lt e g = absurd (omega arith)
falls_nth k (r ∷ ps) (suc i) (suc j) p q f lt e g = falls_nth k ps i j p q f.1 (omega arith) e g

-- the candidate that an offer makes of a pair, at a level and with a position
abbrev extended_by : {C : Type 0} → Meaning C → ℕ → ℕ → Pair C → Offer C → State C
extended_by k level position q o = record { load = q.load + o.load; cost = k.plus q.cost o.entry; level = level; position = position }

-- where a candidate comes from
record Made {C : Type 0} (k : Meaning C) (level position : ℕ) (a : Option (Pair C)) (b : Option (Offer C)) (x : State C) : Type 0 where
  from : Pair C
  offer : Offer C
  from_is : a ≡ Some from
  offer_is : b ≡ Some offer
  is : x ≡ extended_by k level position from offer

made : {C : Type 0} (k : Meaning C) (level position : ℕ) (a : Option (Pair C)) (b : Option (Offer C)) (x : State C) → state_of level position (sum_of (stepped k a b)) ≡ Some x → Made k level position a b x
made k level position None b x e = absurd (none-some refl e)
made k level position (Some q) None x e = absurd (none-some refl e)
made k level position (Some q) (Some o) x e = record { from = q; offer = o; from_is = refl; offer_is = refl; is = same_some e refl }

module _ {C : Type 0} (k : Meaning C) (base : ℕ) (ps : List (Pair C)) (offered : ℕ → Option (Offer C)) where
  abbrev at : ℕ → ℕ → Option (State C)
  at = head_at k base ps offered

  of : (level i : ℕ) (x : State C) → at level i ≡ Some x → Made k level (base + i) (slice_get ps i) (offered level) x
  of level i x e = made k level (base + i) (slice_get ps i) (offered level) x e

  into : (level i : ℕ) (q : Pair C) (o : Offer C) → slice_get ps i ≡ Some q → offered level ≡ Some o → at level i ≡ Some (extended_by k level (base + i) q o)
  into level i q o e f = ap (λ a. state_of level (base + i) (sum_of (stepped k a (offered level)))) e ∙ ap (λ b. state_of level (base + i) (sum_of (stepped k (Some q) b))) f

  pub indexed : Indexed at (length ps)
  indexed = record {
    levelled = λ level i x e. ap (λ (s : State C). s.level) (of level i x e).is;
    short = λ level i x e. nth_below ps i (of level i x e).from (of level i x e).from_is;
    filled = λ level i j x e lt. let m = of level i x e in let q = get_or ps j m.from in (extended_by k level (base + j) q m.offer, into level j q m.offer (slice_get-get_or ps j m.from lt) m.offer_is);
  }

  module _ (laws : Laws k) (numbered : (level : ℕ) (o : Offer C) → offered level ≡ Some o → o.level ≡ level) (row : Row C) (done later : List (Row C)) (few : length (row ∷ done) ≤ most_entries) (priced : Priced k (row ∷ done)) (pairs : ps ≡ front k done (row ∷ later))
      (listed : (level : ℕ) (o : Offer C) → level < 8 → offered level ≡ Some o → In o row.offers) where
    -- the cost of a pair is a sum of as many entries as there were rows
    sum_at : (i : ℕ) (q : Pair C) → slice_get ps i ≡ Some q → Sum k (length done) q.cost
    sum_at i q e = sum_before k laws row done later few priced q (subst (In q) pairs (nth_in ps i q e))

    total_at : (i : ℕ) (q : Pair C) → slice_get ps i ≡ Some q → Total k q.cost
    total_at i q e = record { count = length done; few = omega arith; sum = sum_at i q e }

    total_step : (i : ℕ) (q : Pair C) (o : Offer C) → slice_get ps i ≡ Some q → In o row.offers → Total k (k.plus q.cost o.entry)
    total_step i q o e h = step_good k laws row done later few priced q o (sum_at i q e) h

    good : (level i : ℕ) (x : State C) → level < 8 → at level i ≡ Some x → Total k x.cost
    good level i x low e = let m = of level i x e in subst (λ (s : State C). Total k s.cost) (sym m.is) (total_step i m.from m.offer m.from_is (listed level m.offer low m.offer_is))

    -- the same offer keeps the order of two pairs
    rises_step : (i j : ℕ) (q r : Pair C) (o : Offer C) → i < j → slice_get ps i ≡ Some q → slice_get ps j ≡ Some r → In o row.offers → NoDearer k (k.plus q.cost o.entry) (k.plus r.cost o.entry)
    rises_step i j q r o lt e g h =
        let falls = subst (Falls k) (sym pairs) (front_falls k laws done (row ∷ later) (omega arith) (λ s i. priced s (inr i))) in
        laws.grows q.cost r.cost o.entry (total_at i q e) (total_at j r g) (record { count = 1; few = omega arith; sum = priced row (inl refl) o h })
        (total_step i q o e h) (total_step j r o g h)
        (ahead_under k laws q r (total_at i q e) (total_at j r g) (falls_nth k ps i j q r falls lt e g))

    rises : (level i j : ℕ) (x y : State C) → level < 8 → i ≤ j → at level i ≡ Some x → at level j ≡ Some y → NoDearer k x.cost y.cost
    rises level i j x y low le e g = ⊎_elim
        (λ lt.
        let m = of level i x e in
        let n = of level j y g in
        let same : n.offer ≡ m.offer = same_some n.offer_is m.offer_is in
        subst (λ (s : State C). NoDearer k s.cost y.cost) (sym m.is)
        (subst (λ (s : State C). NoDearer k (k.plus m.from.cost m.offer.entry) s.cost) (sym n.is)
        (subst (λ (a : Offer C). NoDearer k (k.plus m.from.cost m.offer.entry) (k.plus n.from.cost a.entry)) (sym same)
        (rises_step i j m.from n.from m.offer lt m.from_is n.from_is (listed level m.offer low m.offer_is)))))
        (λ ge.
        let here : at level i ≡ Some y = subst (λ l. at level l ≡ Some y) (omega arith) g in
        let g_x = good level i x low e in
        subst (λ (s : State C). NoDearer k x.cost s.cost) (same_some e here) (⊎_elim (λ h. h) (λ h. h) (laws.either x.cost x.cost g_x g_x)))
        (cases_lt i j)

    pub rising : Rising k at
    rising = record { good = good; rises = rises }

    module _ (bound : ℕ) (within : (n : ℕ) → n ≤ bound → T (admits row later n)) (beyond : (n : ℕ) → T (admits row later n) → n ≤ bound)
        (all : (o : Offer C) → In o row.offers → (o.level < 8) × (offered o.level ≡ Some o)) (climbs : Climbs row.offers) where
      extends : (x : State C) → Candidate at bound x → Extension k row later base (front k done (row ∷ later)) x
      extends x c =
          let m = of c.level c.place x c.is in
          record {
            offer = m.offer;
            offer_in = listed c.level m.offer c.below m.offer_is;
            index = c.place;
            from = m.from;
            stands = subst (λ (l : List (Pair C)). slice_get l c.place ≡ Some m.from) pairs m.from_is;
            is = m.is ∙ ap (λ l. extended_by k l (base + c.place) m.from m.offer) (sym (numbered c.level m.offer m.offer_is));
            room = within x.load c.light;
          }

      is_candidate : (x : State C) → Extension k row later base (front k done (row ∷ later)) x → Candidate at bound x
      is_candidate x e =
          let o = all e.offer e.offer_in in
          let stands : slice_get ps e.index ≡ Some e.from = subst (λ (l : List (Pair C)). slice_get l e.index ≡ Some e.from) (sym pairs) e.stands in
          record { level = e.offer.level; below = o.0; place = e.index; is = into e.offer.level e.index e.from e.offer stands o.1 ∙ ap Some (sym e.is); light = beyond x.load e.room }

      pub merged_is_next : (final : List (State C)) → Keeps k (Candidate at bound) final → reverse final ≡ next_places k base row done later
      merged_is_next final h =
          kept_is_next k laws row done later few priced base climbs final
          (keeps_same k (Candidate at bound) (Extension k row later base (front k done (row ∷ later))) final extends is_candidate h)
