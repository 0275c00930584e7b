use Rattle.std.proofs.Common.{◌≡◌, ◌<◌, cond, sym, ap, arith, ltb-false, ltb-true}
use Rattle.std.proofs.lemmas.Bool.{ne_eqb}
use Rattle.fronts.specs.Merge.{size}
use Rattle.fronts.proofs.Reading.{no_pair, pair_read}
use Rattle.fronts.proofs.merge.pair_before.Goals as goal

pub returns-then-not-has_pair : goal.returns-then-not-has_pair
returns-then-not-has_pair g c = no_pair g.K.Kind.meaning c.args.front.base c.args.front.count c.args.part.now c.requires.within c.args.index (ltb-false c.args.index (size c.args.front.base c.args.front.count) (sym c.if-not-has_pair.ensures))

pub returns : goal.returns
returns g c =
    let all : size c.args.front.base c.args.front.count ≡ c.args.front.count = ap (λ b. cond b 1 c.args.front.count) (ne_eqb c.args.front.base 0 c.if-front-eq0.false) in
    let below : c.args.index < c.args.front.count = omega (arith, ltb-true c.args.index (size c.args.front.base c.args.front.count) (sym c.if-not-has_pair.ensures)) in
    pair_read g.K.Kind.meaning c.args.front.base c.args.front.count c.args.part.now c.requires.within c.if-front-eq0.false c.args.index below c.index-part-index.result c.index-part-index.is
