-- The smallest load of a row, from its highest level down.
use Rattle.std.proofs.Common.{◌≡◌, ℕ, suc, ◌+◌, ◌-◌, ◌<◌, ◌≤◌, List, [], ◌∷◌, ◌++◌, get_or, Some, None, Option, unwrap_or, refl, ap, ◌∙◌, arith}
use Rattle.std.specs.Option.{option_map}
use Rattle.board.specs.declared.offers.Offer.{Offer}
use Rattle.cost.specs.Kinds.{Meaning}
use Rattle.plans.specs.Choices
use Rattle.plans.specs.Choices.{smallest}
use Rattle.plans.specs.Boards.{priced}
use Rattle.fronts.specs.Rows.{measure_at, offers_from, lesser}

abbrev pub Within : Option ℕ → Type 0
Within None = Unit {0}
Within (Some n) = n ≤ 60000000

pub lesser_within : (r : Option ℕ) (n : ℕ) → Within r → n ≤ 60000000 → lesser r n ≤ 60000000
lesser_within None n w h = h
lesser_within (Some m) n w h = omega arith

module _ {C : Type 0} where
  -- none of no offers
  abbrev pub least : List (Choices.Offer C) → Option ℕ
  least [] = None
  least (o ∷ os) = Some (smallest (o ∷ os))

  pub least_value : (os : List (Choices.Offer C)) → unwrap_or (least os) 0 ≡ smallest os
  least_value [] = refl
  least_value (o ∷ os) = refl

  smallest_more : (o : Choices.Offer C) (os : List (Choices.Offer C)) → smallest (o ∷ os) ≡ lesser (least os) o.load
  smallest_more o [] = refl
  smallest_more o (p ∷ os) = refl

module _ {C : Type 0} (k : Meaning C) (os : List (Option Offer)) (i : ℕ) (low : i < 8) where
  turn : offers_from k os i (8 - i) ≡ priced k i (measure_at os i) ++ offers_from k os (i + 1) (8 - (i + 1))
  turn = let e : 8 - i ≡ suc (8 - (i + 1)) = omega arith in ap (offers_from k os i) e

  -- a level that is not offered
  pub least_pass : get_or os i None ≡ None → least (offers_from k os i (8 - i)) ≡ least (offers_from k os (i + 1) (8 - (i + 1)))
  least_pass e = ap least (turn ∙ ap (λ (o : Option Offer). priced k i (option_map (λ x. x.measure) o) ++ offers_from k os (i + 1) (8 - (i + 1))) e)

  -- a level that is
  pub least_more : (o : Offer) → get_or os i None ≡ Some o → least (offers_from k os i (8 - i)) ≡ Some (lesser (least (offers_from k os (i + 1) (8 - (i + 1)))) o.measure.load)
  least_more o e =
      ap least (turn ∙ ap (λ (x : Option Offer). priced k i (option_map (λ y. y.measure) x) ++ offers_from k os (i + 1) (8 - (i + 1))) e)
      ∙ ap Some (smallest_more (record { level = i; load = o.measure.load; entry = k.worth o.measure }) (offers_from k os (i + 1) (8 - (i + 1))))
