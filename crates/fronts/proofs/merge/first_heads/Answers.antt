use Rattle.std.proofs.Common.{get_or, set, None, sym, ap, ◌∙◌, ⊎_elim, arith, get_or-set_other, get_or-set_same}
use Rattle.std.proofs.lemmas.Bool.{cases_eq}
use Rattle.fronts.specs.ByLevel.{by_level}
use Rattle.fronts.proofs.Looping.{sums}
use Rattle.fronts.proofs.merge.first_heads.Goals as goal

pub loop-level-init : goal.loop-level-init
loop-level-init g c level below = absurd (omega arith)

pub loop-level-preserved : goal.loop-level-preserved
loop-level-preserved g c level below =
    let heads = by_level c.loop-level.heads in
    let n = c.loop-level.level in
    let new = c.head.result in
    ap (λ hs. get_or hs level None) c.put.ensures
    ∙ ⊎_elim
    (λ e. ap (λ l. get_or (set heads n new) l None) e ∙ get_or-set_same heads n new None c.loop-level-test.true ∙ c.head.ensures
    ∙ ap (λ l. sums g.K.Kind.meaning c.args.front.base c.args.front.count c.args.part.now (by_level c.args.offers.now) l 0) (sym e))
    (λ other. get_or-set_other heads n level new None other ∙ c.loop-level.invariant level (omega arith))
    (cases_eq level n)
