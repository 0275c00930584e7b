use Rattle.std.proofs.Common.{T, take, Some, None, sym, ap, ◌∙◌}
use Rattle.std.specs.List.{slice_get}
use Rattle.std.proofs.lemmas.List.{get_or_default}
use Rattle.plans.proofs.Members.{cond_yes}
use Rattle.fronts.specs.ByLevel.{by_level}
use Rattle.fronts.specs.Merging.{sum_of, stepped}
use Rattle.fronts.specs.Merge.{before, numbered_offer, offer_at}
use Rattle.fronts.proofs.Reading.{sum_some}
use Rattle.fronts.proofs.merge.head.Goals as goal

pub extend-requires : goal.extend-requires
extend-requires g c =
    let pair = slice_get (before g.K.Kind.meaning c.args.front.base (take c.args.front.count c.args.part.now)) c.args.index in
    let offered = get_or_default (by_level c.args.offers.now) c.args.level None c.get.result c.requires.low ∙ sym c.get.ensures ∙ c.in_ok-offer.was in
    record { fits = c.requires.fits.loads c.args.index c.args.level _ c.in_ok-offer.offer c.requires.low (sum_some pair c.in_ok-sum.sum c.in_ok-sum.ensures) offered }

pub returns : goal.returns
returns g c =
    let k = g.K.Kind.meaning in
    let sum = c.in_ok-sum.sum in
    let offer = c.in_ok-offer.offer in
    let pair = slice_get (before k c.args.front.base (take c.args.front.count c.args.part.now)) c.args.index in
    let stood = sum_some pair sum c.in_ok-sum.ensures in
    let offered = get_or_default (by_level c.args.offers.now) c.args.level None c.get.result c.requires.low ∙ sym c.get.ensures ∙ c.in_ok-offer.was in
    let answers : T (k.adds sum.1 offer.entry) = c.requires.fits.costs c.args.index c.args.level _ offer c.requires.low stood offered in
    c.extend.ensures ∙ cond_yes (k.adds sum.1 offer.entry) _ _ answers
    ∙ sym (ap (λ a. sum_of (stepped k a (offer_at (by_level c.args.offers.now) c.args.level))) stood
    ∙ ap (λ b. sum_of (stepped k (Some (record { load = sum.0; cost = sum.1 })) (numbered_offer c.args.level b))) offered)
