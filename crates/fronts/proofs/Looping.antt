-- The loop of the merge inside a part of the list: what holds before each turn, and what it comes to.
use Rattle.std.proofs.Common.{◌≡◌, ℕ, suc, ◌+◌, ◌-◌, ◌<◌, ◌≤◌, List, [], ◌∷◌, reverse, length, get_or, take, set, replicate, Some, None, Ok, Err, Option, Result, sym, refl, ap, ◌∙◌, subst, ⊎_elim, arith, length-set, get_or-set_other, get_or-set_same}
use mathlib.Core.Logic.{∥∥₁_elim}
use mathlib.Core.HLevel.{×_prop, ×₃_prop}
use native.Mathlib.Bridge.{le_prop}
use base.Stored.{Coded, Coded-set, coded_ℕ, coded×, coded_list, coded_via}
use lib.ListN.{length-reverse}
use Rattle.std.proofs.lemmas.List.{get_or_past, get_or-replicate}
use Rattle.std.proofs.lemmas.Bool.{cases_lt, cases_eq}
use Rattle.cost.specs.Kinds.{Meaning, Laws}
use Rattle.plans.specs.declared.states.State.{State}
use Rattle.plans.specs.Choices.{In, Offer, Row}
use Rattle.plans.specs.Fronts.{Pair}
use Rattle.plans.specs.Places.{next_places}
use Rattle.plans.specs.Plans.{laid}
use Rattle.plans.specs.Promises.{Priced}
use Rattle.plans.proofs.Members.{none-some, same_some}
use Rattle.plans.proofs.Sources.{Climbs}
use Rattle.plans.proofs.Candidates.{Keeps}
use Rattle.fronts.specs.declared.merge.PricedOffer.{PricedOffer}
use Rattle.fronts.specs.declared.merge.Full.{Full}
use Rattle.fronts.specs.Merging.{state_of, sum_at, head_at, heads_of, cheapest, keep}
use Rattle.fronts.specs.Merge.{before, numbered_offer, offer_at, Outcome, Kept, NextRow}
use Rattle.fronts.proofs.Heads.{cheapest_same}
use Rattle.fronts.proofs.Turns.{Indexed, Rising, heads_at, left, moved, low, short, left_falls}
use Rattle.fronts.proofs.Passing.{Candidate, Merging, starts, ends, merging_on, finish}
use Rattle.fronts.proofs.Extending.{indexed, rising, merged_is_next}
use Rattle.fronts.proofs.Offering.{offer_listed, listed_offer, offers_climb}
use Rattle.fronts.proofs.Laying.{laid_none, take_laid}

-- an outcome is an equation of lists or an order of numbers, so that it holds in one way at most
module _ {C : Type 0} (coded : Coded C) where
  coded_state : Coded (State C)
  coded_state = coded_via (coded× coded_ℕ (coded× coded (coded× coded_ℕ coded_ℕ))) (λ (s : State C). (s.load, (s.cost, (s.level, s.position))))
      (λ x y p i. record { load = (p i).0; cost = (p i).1.0; level = (p i).1.1.0; position = (p i).1.1.1 })

  outcome_prop : (count : ℕ) (new old out : List (State C)) (r : Result ℕ Full) → IsProp (Outcome count new old out r)
  outcome_prop count new old out (Ok n) = ×₃_prop (Coded-set coded_ℕ n (length new)) le_prop (Coded-set (coded_list coded_state) out (laid count new old))
  outcome_prop count new old out (Err e) = ×_prop le_prop (Coded-set (coded_list coded_state) (take count out) (take count old))

pub numbered : {C : Type 0} (os : List (Option (PricedOffer C))) (level : ℕ) (o : Offer C) → offer_at os level ≡ Some o → o.level ≡ level
numbered {C} os level o e = go (get_or os level None) e where
  go : (a : Option (PricedOffer C)) → numbered_offer level a ≡ Some o → o.level ≡ level
  go None f = absurd (none-some refl f)
  go (Some a) f = ap (λ (p : Offer C). p.level) (sym (same_some refl f))

-- the candidates of a part that held `old`, and the load and the cost of each
abbrev pub candidates : {C : Type 0} → Meaning C → ℕ → ℕ → List (State C) → List (Option (PricedOffer C)) → ℕ → ℕ → Option (State C)
candidates k base count old os = head_at k base (before k base (take count old)) (offer_at os)

abbrev pub sums : {C : Type 0} → Meaning C → ℕ → ℕ → List (State C) → List (Option (PricedOffer C)) → ℕ → ℕ → Option (ℕ × C)
sums k base count old os = sum_at k (before k base (take count old)) (offer_at os)

-- what is kept lies behind the front before, the heads are those that the cursors stand at, and the merge has kept enough so far
pub record Going {C : Type 0} (k : Meaning C) (base bound count : ℕ) (old : List (State C)) (os : List (Option (PricedOffer C))) (part : List (State C)) (end : ℕ) (heads : List (Option (ℕ × C))) (cursors : List ℕ) : Type 0 where
  pub kept : List (State C)
  pub is : part ≡ laid count (reverse kept) old
  pub ends : end ≡ count + length kept
  pub room : end ≤ length old
  pub eight_heads : length heads ≡ 8
  pub eight_cursors : length cursors ≡ 8
  pub stand : (level : ℕ) → level < 8 → get_or heads level None ≡ sums k base count old os level (get_or cursors level 0)
  pub merging : Rising k (candidates k base count old os) → Merging k (candidates k base count old os) bound cursors kept

module _ {C : Type 0} (k : Meaning C) (laws : Laws k) (base bound count : ℕ) (old : List (State C)) (os : List (Option (PricedOffer C))) (within : count ≤ length old) where
  abbrev ps : List (Pair C)
  ps = before k base (take count old)

  abbrev at : ℕ → ℕ → Option (State C)
  at = candidates k base count old os

  by_index : Indexed at (length ps)
  by_index = indexed k base ps (offer_at os)

  pub begins : (heads : List (Option (ℕ × C))) → length heads ≡ 8 → ((level : ℕ) → level < 8 → get_or heads level None ≡ sums k base count old os level 0) → Going k base bound count old os old count heads (replicate 8 0)
  begins heads eight firsts = record {
    kept = [];
    is = laid_none old count;
    ends = omega arith;
    room = within;
    eight_heads = eight;
    eight_cursors = refl;
    stand = λ level below. firsts level below ∙ ap (sums k base count old os level) (sym (zeros level));
    merging = λ _. starts k at bound (replicate 8 0) zeros;
  } where
    zeros : (level : ℕ) → ◌≡◌ {A = ℕ} (get_or (replicate 8 0) level 0) 0
    zeros level = ⊎_elim (λ lt. get_or-replicate 8 level 0 0 lt) (λ ge. get_or_past (replicate 8 0) level 0 ge) (cases_lt level 8)

  -- what the row and the rows around it say of the candidates
  module _ (row : Row C) (done later : List (Row C)) (turn : NextRow k ps os bound row done later) where
    listed : (level : ℕ) (o : Offer C) → level < 8 → offer_at os level ≡ Some o → In o row.offers
    listed level o low e = subst (In o) turn.offers (offer_listed (offer_at os) (numbered os) level o low e)

    rising_of : Priced k (row ∷ done) → Rising k at
    rising_of priced = rising k base ps (offer_at os) laws (numbered os) row done later turn.few priced turn.pairs listed

    next_of : Priced k (row ∷ done) → (final : List (State C)) → Keeps k (Candidate at bound) final → reverse final ≡ next_places k base row done later
    next_of priced =
        merged_is_next k base ps (offer_at os) laws (numbered os) row done later turn.few priced turn.pairs listed bound turn.within turn.beyond
        (λ o h. listed_offer (offer_at os) (numbered os) o (subst (In o) (sym turn.offers) h)) (subst Climbs turn.offers (offers_climb (offer_at os) (numbered os)))

  module _ (part : List (State C)) (end : ℕ) (heads : List (Option (ℕ × C))) (cursors : List ℕ) (inv : Going k base bound count old os part end heads cursors) where
    pub same_front : take count part ≡ take count old
    same_front = ap (take count) inv.is ∙ take_laid old count (reverse inv.kept) (omega (arith, inv.ends, inv.room, length-reverse inv.kept))

    -- a cursor with a head is within the front before
    pub cursor_below : (level : ℕ) (sum : ℕ × C) → get_or heads level None ≡ Some sum → get_or cursors level 0 < length ps
    cursor_below level sum e =
        let low : level < 8 = ⊎_elim (λ lt. lt) (λ ge. absurd (none-some (get_or_past heads level None (omega (arith, inv.eight_heads))) e)) (cases_lt level 8) in
        by_index.short level (get_or cursors level 0) _ (ap (state_of level (base + get_or cursors level 0)) (sym (inv.stand level low) ∙ e))

    as_at : cheapest k (heads_of base heads cursors) 8 ≡ cheapest k (heads_at at cursors) 8
    as_at = cheapest_same k (heads_of base heads cursors) (heads_at at cursors) 8 (λ level below. ap (state_of level (base + get_or cursors level 0)) (inv.stand level below))

    module _ (next : State C) (told : Some next ≡ cheapest k (heads_of base heads cursors) 8) where
      first_one : cheapest k (heads_at at cursors) 8 ≡ Some next
      first_one = sym (told ∙ as_at)

      pub low_next : next.level < 8
      low_next = low at (length ps) by_index cursors inv.eight_cursors k next first_one

      pub short_next : get_or cursors next.level 0 < length ps
      short_next = short at (length ps) by_index cursors inv.eight_cursors k next first_one

      pub falls : left (length ps) cursors ≡ suc (left (length ps) (moved cursors next.level))
      falls = left_falls at (length ps) by_index cursors inv.eight_cursors k next first_one

      -- the new head is read from the part as it is now
      module _ (new : Option (ℕ × C)) (made : new ≡ sums k base count part os next.level (get_or cursors next.level 0 + 1)) where
        stand_on : (level : ℕ) → level < 8 → get_or (set heads next.level new) level None ≡ sums k base count old os level (get_or (moved cursors next.level) level 0)
        stand_on level below = ⊎_elim
            (λ e. subst (λ l. get_or (set heads next.level new) l None ≡ sums k base count old os l (get_or (moved cursors next.level) l 0)) (sym e) (
            get_or-set_same heads next.level new None (omega (arith, low_next, inv.eight_heads)) ∙ made
            ∙ ap (λ (l : List (State C)). sum_at k (before k base l) (offer_at os) next.level (get_or cursors next.level 0 + 1)) same_front
            ∙ ap (sums k base count old os next.level) (sym (get_or-set_same cursors next.level (get_or cursors next.level 0 + 1) 0 (omega (arith, low_next, inv.eight_cursors))))
            ))
            (λ other. get_or-set_other heads next.level level new None other ∙ inv.stand level below ∙ ap (sums k base count old os level) (sym (get_or-set_other cursors next.level level (get_or cursors next.level 0 + 1) 0 other)))
            (cases_eq level next.level)

        pub goes_on : (out : List (State C)) (stop : ℕ) → Kept count (keep k bound inv.kept next) old out (Ok stop) → Going k base bound count old os out stop (set heads next.level new) (moved cursors next.level)
        goes_on out stop s = record {
          kept = keep k bound inv.kept next;
          is = s.2;
          ends = s.0;
          room = s.1;
          eight_heads = length-set heads next.level new ∙ inv.eight_heads;
          eight_cursors = length-set cursors next.level (get_or cursors next.level 0 + 1) ∙ inv.eight_cursors;
          stand = stand_on;
          merging = λ rise. merging_on k laws at (length ps) bound by_index rise cursors inv.eight_cursors next first_one inv.kept (inv.merging rise);
        }

      -- the merge would keep at least as many
      pub overfull : (coded : Coded C) (out : List (State C)) (e : Full) → Kept count (keep k bound inv.kept next) old out (Err e) →
          (row : Row C) (done later : List (Row C)) → NextRow k ps os bound row done later → Outcome count (next_places k base row done later) old out (Err e)
      overfull coded out e s row done later turn = ∥∥₁_elim turn.priced (outcome_prop coded count (next_places k base row done later) old out (Err e)) (λ priced.
          let rise = rising_of row done later turn priced in
          let on = moved cursors next.level in
          let f = finish k laws at (length ps) bound by_index rise (suc (left (length ps) on)) on (keep k bound inv.kept next) (omega arith)
          (length-set cursors next.level (get_or cursors next.level 0 + 1) ∙ inv.eight_cursors) (merging_on k laws at (length ps) bound by_index rise cursors inv.eight_cursors next first_one inv.kept (inv.merging rise)) in
          (omega (arith, s.0, f.2, ap length (next_of row done later turn priced f.0 f.1), length-reverse f.0), s.1))

    pub complete : None ≡ cheapest k (heads_of base heads cursors) 8 → (coded : Coded C) →
        (row : Row C) (done later : List (Row C)) → NextRow k ps os bound row done later → Outcome count (next_places k base row done later) old part (Ok (end - count))
    complete told coded row done later turn = ∥∥₁_elim turn.priced (outcome_prop coded count (next_places k base row done later) old part (Ok (end - count))) (λ priced.
        let rise = rising_of row done later turn priced in
        let next = next_of row done later turn priced inv.kept (ends k laws at (length ps) bound by_index rise cursors inv.eight_cursors inv.kept (sym (told ∙ as_at)) (inv.merging rise)) in
        let long : length inv.kept ≡ length (next_places k base row done later) = sym (length-reverse inv.kept) ∙ ap length next in
        (omega (arith, inv.ends), omega (arith, inv.ends, inv.room), inv.is ∙ ap (λ (l : List (State C)). laid count l old) next))
