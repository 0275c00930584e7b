use Rattle.std.proofs.Common.{◌≡◌, ◌+◌, get_or, None, sym, ap, ◌∙◌, arith}
use Rattle.std.proofs.lemmas.List.{get_or_default}
use Rattle.fronts.specs.ByLevel.{by_level}
use Rattle.fronts.specs.Merging.{state_of, heads_of, cheapest}
use Rattle.fronts.proofs.Heads.{cheapest_some, cheapest_none}
use Rattle.fronts.proofs.merge.cheapest.Goals as goal
use Rattle.fronts.proofs.merge.cheapest.Goals.{in-Some, in_default}

pub candidate-offered-requires : goal.candidate-offered-requires
candidate-offered-requires g c = record {
  low = omega (arith, c.loop-level-test.true, c.told-cursors);
  position =
      c.requires.positions c.loop-level.level c.in-Some.sum
      (get_or_default (by_level c.args.heads.now) c.loop-level.level None c.get.result (omega (arith, c.loop-level-test.true, c.told-cursors)) ∙ sym c.get.ensures ∙ c.in-Some.is);
}

pub loop-level-preserved : goal.loop-level-preserved
loop-level-preserved g c =
    let k = g.K.Kind.meaning in
    let heads = heads_of c.args.base (by_level c.args.heads.now) c.args.cursors.now in
    let n = c.loop-level.level in
    let at = state_of n (c.args.base + get_or c.args.cursors.now n 0) in
    let read = c.get.ensures ∙ get_or_default (by_level c.args.heads.now) n c.get.result None (omega (arith, c.loop-level-test.true, c.told-cursors)) in
    elim c.match-get.branch [
      | in-Some w ↦
          w.found-is ∙ w.cheaper-found.ensures
          ∙ cheapest_some k heads n c.loop-level.found c.loop-level.invariant w.candidate-offered.result (w.candidate-offered.ensures ∙ ap at (sym w.in-Some.is ∙ read))
      | in_default w ↦ w.found-is ∙ cheapest_none k heads n c.loop-level.found c.loop-level.invariant (ap at (sym w.in_default.is ∙ read))
    ]

pub returns : goal.returns
returns g c =
    let all : c.loop-level.level ≡ 8 = omega arith in
    c.loop-level.invariant ∙ ap (cheapest g.K.Kind.meaning (heads_of c.args.base (by_level c.args.heads.now) c.args.cursors.now)) all
