-- The offers of a row, from the lowest level on, where `offered` has one or none for each level.
use Rattle.std.proofs.Common.{◌≡◌, ℕ, zero, suc, ◌+◌, ◌<◌, ◌≤◌, List, ◌++◌, Some, None, Option, sym, refl, ap, ◌∙◌, inl, ⊎_elim, arith}
use Rattle.std.specs.List.{range_with_len, flat_map}
use Rattle.std.proofs.lemmas.Bool.{cases_eq}
use Rattle.plans.specs.Choices.{In, Offer}
use Rattle.plans.proofs.Members.{none-some, same_some, only, append_left, append_right, append_out}
use Rattle.plans.proofs.Sources.{Climbs}
use Rattle.fronts.specs.Merging.{given, offers_by}

given_out : {X : Type 0} (a : Option X) (x : X) → In x (given a) → a ≡ Some x
given_out None x h = absurd h
given_out (Some y) x h = ap Some (sym (only h))

given_in : {X : Type 0} (a : Option X) (x : X) → a ≡ Some x → In x (given a)
given_in None x e = absurd (none-some refl e)
given_in (Some y) x e = inl (same_some e refl)

module _ {C : Type 0} (offered : ℕ → Option (Offer C)) (numbered : (level : ℕ) (o : Offer C) → offered level ≡ Some o → o.level ≡ level) where
  -- the offers of n levels from `first` on
  abbrev stretch : ℕ → ℕ → List (Offer C)
  stretch first n = flat_map (λ level. given (offered level)) (range_with_len first n)

  stretch_out : (first n : ℕ) (o : Offer C) → In o (stretch first n) → (first ≤ o.level) × (o.level < first + n) × (offered o.level ≡ Some o)
  stretch_out first zero o h = absurd h
  stretch_out first (suc n) o h = ⊎_elim
      (λ here. let e = given_out (offered first) o here in let l = numbered first o e in (omega arith, omega arith, ap offered l ∙ e))
      (λ further. let r = stretch_out (first + 1) n o further in (omega (arith, r.0), omega (arith, r.1), r.2))
      (append_out (given (offered first)) (stretch (first + 1) n) o h)

  stretch_in : (first n level : ℕ) (o : Offer C) → first ≤ level → level < first + n → offered level ≡ Some o → In o (stretch first n)
  stretch_in first zero level o from below e = absurd (omega arith)
  stretch_in first (suc n) level o from below e = ⊎_elim
      (λ here. append_left (given (offered first)) (stretch (first + 1) n) o (given_in (offered first) o (ap offered (sym here) ∙ e)))
      (λ other. append_right (given (offered first)) (stretch (first + 1) n) o (stretch_in (first + 1) n level o (omega arith) (omega arith) e))
      (cases_eq level first)

  stretch_climbs : (first n : ℕ) → Climbs (stretch first n)
  stretch_climbs first zero = tt
  stretch_climbs first (suc n) = go (offered first) refl (stretch_climbs (first + 1) n) where
    go : (a : Option (Offer C)) → offered first ≡ a → Climbs (stretch (first + 1) n) → Climbs (given a ++ stretch (first + 1) n)
    go None e rest = rest
    go (Some o) e rest = (λ p h. omega (arith, numbered first o e, (stretch_out (first + 1) n p h).0), rest)

  pub offer_listed : (level : ℕ) (o : Offer C) → level < 8 → offered level ≡ Some o → In o (offers_by offered)
  offer_listed level o low e = stretch_in 0 8 level o (omega arith) (omega arith) e

  pub listed_offer : (o : Offer C) → In o (offers_by offered) → (o.level < 8) × (offered o.level ≡ Some o)
  listed_offer o h = let r = stretch_out 0 8 o h in (omega (arith, r.1), r.2)

  pub offers_climb : Climbs (offers_by offered)
  offers_climb = stretch_climbs 0 8
