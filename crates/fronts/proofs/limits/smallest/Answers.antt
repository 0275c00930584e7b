use Rattle.std.proofs.Common.{◌≡◌, ◌+◌, ◌-◌, ◌≤◌, [], ◌∷◌, List, length, length-append, take, Some, None, Option, sym, ap, ◌∙◌, subst, arith}
use Rattle.board.specs.declared.offers.Offer.{Offer}
use Rattle.board.proofs.Bounds.{load_bound}
use Rattle.fronts.specs.Rows.{offers_from, lesser}
use Rattle.fronts.proofs.Lasts.{last_taken}
use Rattle.fronts.proofs.Lightest.{least, least_pass, least_more, lesser_within}
use Rattle.fronts.proofs.limits.smallest.Goals as goal

pub loop-offer-preserved-in-Some-offer : goal.loop-offer-preserved-in-Some-offer
loop-offer-preserved-in-Some-offer g c =
    let k = g.K.Kind.meaning in
    let os = c.args.offers.now in
    let rest = c.next.new.self.iter.rest.now in
    let i = length rest in
    let o = c.in-Some-offer.offered in
    let step = c.in-Some.ensures.steps in
    let inv = c.loop-offer.invariant in
    let p = last_taken rest os c.in-Some.offer.now (sym step ∙ inv.2 ∙ ap (λ (xs : List (Option Offer)). take (length xs) os) step) in
    let on : length c.loop-offer.offer-iterator.iter.rest.now ≡ i + 1 = ap length step ∙ length-append rest (c.in-Some.offer.now ∷ []) in
    let before : c.loop-offer.least ≡ least (offers_from k os (i + 1) (8 - (i + 1))) = subst (λ n. c.loop-offer.least ≡ least (offers_from k os n (8 - n))) on inv.0 in (
      ap Some (c.lesser_of.ensures ∙ ap (λ r. lesser r o.measure.load) before) ∙ sym (least_more k os i (omega (arith, p.1, c.told-offers)) o (sym (p.2 None) ∙ c.in-Some-offer.is)),
      subst (λ n. n ≤ 60000000) (sym c.lesser_of.ensures) (lesser_within c.loop-offer.least o.measure.load inv.1 (load_bound o.measure o.offered)),
      p.0,
    )

pub loop-offer-preserved : goal.loop-offer-preserved
loop-offer-preserved g c =
    let k = g.K.Kind.meaning in
    let os = c.args.offers.now in
    let rest = c.next.new.self.iter.rest.now in
    let i = length rest in
    let step = c.in-Some.ensures.steps in
    let inv = c.loop-offer.invariant in
    let p = last_taken rest os c.in-Some.offer.now (sym step ∙ inv.2 ∙ ap (λ (xs : List (Option Offer)). take (length xs) os) step) in
    let on : length c.loop-offer.offer-iterator.iter.rest.now ≡ i + 1 = ap length step ∙ length-append rest (c.in-Some.offer.now ∷ []) in
    let before : c.loop-offer.least ≡ least (offers_from k os (i + 1) (8 - (i + 1))) = subst (λ n. c.loop-offer.least ≡ least (offers_from k os n (8 - n))) on inv.0 in
    (before ∙ sym (least_pass k os i (omega (arith, p.1, c.told-offers)) (sym (p.2 None) ∙ c.in_default.is)), inv.1, p.0)
