-- What one candidate more does to the part.
use Rattle.std.proofs.Common.{◌≡◌, ℕ, ◌+◌, ◌-◌, ◌<◌, ◌≤◌, Bool, true, false, cond, leb, List, [], ◌∷◌, reverse, length, get_or, take, drop, set, Ok, Err, Result, sym, refl, ap, ◌∙◌, subst, arith, length-drop}
use borrow.Rule.Slice.PartMut.{put_mid}
use lib.ListN.{length-reverse}
use Rattle.cost.specs.Kinds.{Meaning}
use Rattle.plans.specs.declared.states.State.{State}
use Rattle.plans.specs.Plans.{laid}
use Rattle.fronts.specs.declared.merge.Full.{Full}
use Rattle.fronts.specs.declared.merge.Comparison.{Comparison}
use Rattle.fronts.specs.declared.merge.Comparison.TheVariants.{NoLighter, Lighter, LighterAndDearer}
use Rattle.fronts.specs.Merging.{put, keep}
use Rattle.fronts.specs.Merge.{comparison, Outcome, Kept}
use Rattle.fronts.proofs.Laying.{laid_last, laid_replace, laid_push, take_laid, length_laid, laid_part, take_part}

-- what is kept after x was compared with the last one kept, q
abbrev after : {C : Type 0} → State C → State C → List (State C) → Comparison → List (State C)
after x q kept NoLighter = q ∷ kept
after x q kept Lighter = x ∷ kept
after x q kept LighterAndDearer = x ∷ q ∷ kept

module _ {C : Type 0} (k : Meaning C) (bound count end : ℕ) (old part : List (State C)) (next : State C) where
  put_after : (q : State C) (kept : List (State C)) → put k (q ∷ kept) next ≡ after next q kept (comparison k next q)
  put_after q kept = judge (leb q.load next.load) (k.under next.cost q.cost) where
    judge : (a b : Bool) → cond a (q ∷ kept) (cond b (next ∷ kept) (next ∷ q ∷ kept)) ≡ after next q kept (cond a NoLighter (cond b Lighter LighterAndDearer))
    judge true b = refl
    judge false true = refl
    judge false false = refl

  -- it is too heavy
  pub passed : leb next.load bound ≡ false → (kept : List (State C)) → part ≡ laid count (reverse kept) old → end ≡ count + length kept → end ≤ length old → Kept count (keep k bound kept next) old part (Ok end)
  passed heavy kept is ends room = subst (λ b. Kept count (cond b (put k kept next) kept) old part (Ok end)) (sym heavy) (ends, room, is)

  module _ (open' : leb next.load bound ≡ true) where
    keep_put : (kept : List (State C)) → keep k bound kept next ≡ put k kept next
    keep_put kept = ap (λ b. cond b (put k kept next) kept) open'

    -- the last one kept is what was read, and how the candidate compares with it says what is kept now
    module _ (last : State C) (more : count < end) (read : last ≡ get_or part (end - 1) last) where
      keep_after : (was : Comparison) → was ≡ comparison k next last → (q : State C) (kept : List (State C)) → part ≡ laid count (reverse (q ∷ kept)) old → end ≡ count + length (q ∷ kept) → end ≤ length old →
          keep k bound (q ∷ kept) next ≡ after next q kept was
      keep_after was told q kept is ends room =
          let place : end - 1 ≡ count + length kept = omega arith in
          let this : last ≡ q = read ∙ ap (λ l. get_or l (end - 1) last) is ∙ ap (λ n. get_or (laid count (reverse (q ∷ kept)) old) n last) place ∙ laid_last old count kept (omega arith) q last in
          keep_put (q ∷ kept) ∙ put_after q kept ∙ ap (λ (s : State C). after next q kept (comparison k next s)) (sym this) ∙ ap (after next q kept) (sym told)

      pub dropped : NoLighter ≡ comparison k next last → (kept : List (State C)) → part ≡ laid count (reverse kept) old → end ≡ count + length kept → end ≤ length old →
          Kept count (keep k bound kept next) old part (Ok end)
      dropped told [] is ends room = absurd (omega arith)
      dropped told (q ∷ kept) is ends room = subst (λ (l : List (State C)). Kept count l old part (Ok end)) (sym (keep_after NoLighter told q kept is ends room)) (ends, room, is)

      pub replaced : Lighter ≡ comparison k next last → (kept : List (State C)) → part ≡ laid count (reverse kept) old → end ≡ count + length kept → end ≤ length old →
          Kept count (keep k bound kept next) old (set part (end - 1) next) (Ok end)
      replaced told [] is ends room = absurd (omega arith)
      replaced told (q ∷ kept) is ends room =
          let place : end - 1 ≡ count + length kept = omega arith in
          subst (λ (l : List (State C)). Kept count l old (set part (end - 1) next) (Ok end)) (sym (keep_after Lighter told q kept is ends room))
          (omega arith, room, ap (λ l. set l (end - 1) next) is ∙ ap (λ n. set (laid count (reverse (q ∷ kept)) old) n next) place ∙ laid_replace old count kept (omega arith) q next)

      pub dearer : LighterAndDearer ≡ comparison k next last → (kept : List (State C)) → part ≡ laid count (reverse kept) old → end ≡ count + length kept → end ≤ length old → keep k bound kept next ≡ next ∷ kept
      dearer told [] is ends room = absurd (omega arith)
      dearer told (q ∷ kept) is ends room = keep_after LighterAndDearer told q kept is ends room

    pub first_kept : end ≤ count → (kept : List (State C)) → end ≡ count + length kept → keep k bound kept next ≡ next ∷ kept
    first_kept none [] ends = keep_put []
    first_kept none (q ∷ kept) ends = absurd (omega arith)

  -- the candidate is kept behind the others
  module _ (kept : List (State C)) (is : part ≡ laid count (reverse kept) old) (ends : end ≡ count + length kept) (room : end ≤ length old) (longer : keep k bound kept next ≡ next ∷ kept) where
    long : length part ≡ length old
    long = ap length is ∙ length_laid old count (reverse kept) (omega (arith, length-reverse kept))

    pub pushed : end < length part → Kept count (keep k bound kept next) old (set part end next) (Ok (end + 1))
    pushed free =
        subst (λ (l : List (State C)). Kept count l old (set part end next) (Ok (end + 1))) (sym longer) (
          omega arith,
          omega (arith, long),
          ap (λ l. set l end next) is ∙ ap (λ n. set (laid count (reverse kept) old) n next) ends ∙ laid_push old count kept (omega arith) next (omega (arith, long)),
        )

    pub full : (e : Full) → length part ≤ end → Kept count (keep k bound kept next) old part (Err e)
    full e none =
        subst (λ (l : List (State C)). Kept count l old part (Err e)) (sym longer)
        (omega (arith, long), ap (take count) is ∙ take_laid old count (reverse kept) (omega (arith, length-reverse kept)))

-- what a step on the rest of a list says of the whole
module _ {X : Type 0} (xs ys : List X) (start count : ℕ) (new : List X) (within : start + count ≤ length xs) (same : length ys ≡ length (drop start xs)) where
  pub outcome_part : (r : Result ℕ Full) → Outcome count new (drop start xs) ys r → Outcome (start + count) new xs (put_mid start (length xs - start) xs ys) r
  outcome_part (Ok n) o = (o.0, omega (arith, o.1, length-drop start xs), laid_part xs ys start count new o.2)
  outcome_part (Err e) o = (omega (arith, o.0, length-drop start xs), take_part xs ys start count within same o.1)
