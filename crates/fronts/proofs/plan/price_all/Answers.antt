use Rattle.std.proofs.Common.{◌<◌, length, get_or, set, None, sym, ap, ◌∙◌, ⊎_elim, arith, get_or-set_other, get_or-set_same}
use Rattle.std.proofs.lemmas.List.{get_or_default}
use Rattle.std.proofs.lemmas.Bool.{cases_eq}
use Rattle.fronts.specs.ByLevel.{by_level}
use Rattle.fronts.specs.Steps.{price_of}
use Rattle.fronts.proofs.plan.price_all.Goals as goal

pub loop-level-init : goal.loop-level-init
loop-level-init g c j below = absurd (omega arith)

pub loop-level-preserved : goal.loop-level-preserved
loop-level-preserved g c j below =
    let k = g.K.Kind.meaning in
    let old = by_level c.loop-level.priced in
    let os = c.args.offers.now in
    let n = c.loop-level.level in
    let new = c.price.result in
    let here : n < length os = omega arith in
    ap (λ ps. get_or ps j None) c.put.ensures
    ∙ ⊎_elim
    (λ e. ap (λ l. get_or (set old n new) l None) e ∙ get_or-set_same old n new None c.loop-level-test.true ∙ c.price.ensures
    ∙ ap (price_of k) (get_or_default os n c.index-offers-level.result None here) ∙ ap (λ l. price_of k (get_or os l None)) (sym e))
    (λ other. get_or-set_other old n j new None other ∙ c.loop-level.invariant j (omega arith))
    (cases_eq j n)
