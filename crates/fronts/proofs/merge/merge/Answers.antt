use Rattle.std.proofs.Common.{◌^◌, List, get_or, sym, refl, subst, arith, lit<}
use Rattle.std.proofs.lemmas.Result.{err_from_is_err_and}
use Rattle.plans.specs.declared.states.State.{State}
use Rattle.fronts.specs.ByLevel.{by_level}
use Rattle.fronts.specs.Merge.{before, Fitting}
use Rattle.fronts.proofs.Reading.{length_before, position_below, size_below}
use Rattle.fronts.proofs.Turns.{moved}
use Rattle.fronts.proofs.Looping.{Going, begins, same_front, cursor_below, low_next, short_next, falls, goes_on, overfull, complete}
use Rattle.fronts.proofs.merge.merge.Goals as goal

pub loop-next-init : goal.loop-next-init
loop-next-init g c =
    begins g.K.Kind.meaning g.met.K.Kind.laws c.args.front.base c.args.bound c.args.front.count c.args.part.now (by_level c.args.offers.now) c.requires.within
    (by_level c.first_heads-heads.result) refl c.first_heads-heads.ensures

pub cheapest-requires : goal.cheapest-requires
cheapest-requires g c = record {
  positions = λ level sum e. position_below c.args.front.base c.args.front.count (2 ^ 64) (get_or c.loop-next.cursors level 0) c.requires.positions (lit< tt) (omega (
    arith,
    length_before g.K.Kind.meaning c.args.front.base c.args.front.count c.args.part.now c.requires.within,
    cursor_below g.K.Kind.meaning g.met.K.Kind.laws c.args.front.base c.args.bound c.args.front.count c.args.part.now (by_level c.args.offers.now) c.requires.within
        c.loop-next.part c.loop-next.end (by_level c.loop-next.heads) c.loop-next.cursors c.loop-next.invariant level sum e,
  ));
}

pub bounds-cursors-level : goal.bounds-cursors-level
bounds-cursors-level g c =
    low_next g.K.Kind.meaning g.met.K.Kind.laws c.args.front.base c.args.bound c.args.front.count c.args.part.now (by_level c.args.offers.now) c.requires.within
    c.loop-next.part c.loop-next.end (by_level c.loop-next.heads) c.loop-next.cursors c.loop-next.invariant c.in-Some.next c.in-Some.ensures

pub overflow_add-index : goal.overflow_add-index
overflow_add-index g c = omega (
  arith,
  short_next g.K.Kind.meaning g.met.K.Kind.laws c.args.front.base c.args.bound c.args.front.count c.args.part.now (by_level c.args.offers.now) c.requires.within
      c.loop-next.part c.loop-next.end (by_level c.loop-next.heads) c.loop-next.cursors c.loop-next.invariant c.in-Some.next c.in-Some.ensures,
  length_before g.K.Kind.meaning c.args.front.base c.args.front.count c.args.part.now c.requires.within,
  size_below c.args.front.base c.args.front.count (2 ^ 64) (omega (arith, c.loop-next.auto.end-fits, c.loop-next.invariant.is)) (lit< tt),
)

pub bounds-cursors-level-in-Some : goal.bounds-cursors-level-in-Some
bounds-cursors-level-in-Some g c =
    low_next g.K.Kind.meaning g.met.K.Kind.laws c.args.front.base c.args.bound c.args.front.count c.args.part.now (by_level c.args.offers.now) c.requires.within
    c.loop-next.part c.loop-next.end (by_level c.loop-next.heads) c.loop-next.cursors c.loop-next.invariant c.in-Some.next c.in-Some.ensures

pub head-requires : goal.head-requires
head-requires g c =
    let same = same_front g.K.Kind.meaning g.met.K.Kind.laws c.args.front.base c.args.bound c.args.front.count c.args.part.now (by_level c.args.offers.now) c.requires.within
    c.loop-next.part c.loop-next.end (by_level c.loop-next.heads) c.loop-next.cursors c.loop-next.invariant in
    record {
      within = omega (arith, c.loop-next.auto.part, c.requires.within);
      fits = subst (λ (l : List (State g.row.K.Denot)). Fitting g.K.Kind.meaning (before g.K.Kind.meaning c.args.front.base l) (by_level c.args.offers.now)) (sym same) c.requires.fits;
      low = low_next g.K.Kind.meaning g.met.K.Kind.laws c.args.front.base c.args.bound c.args.front.count c.args.part.now (by_level c.args.offers.now) c.requires.within
          c.loop-next.part c.loop-next.end (by_level c.loop-next.heads) c.loop-next.cursors c.loop-next.invariant c.in-Some.next c.in-Some.ensures;
    }

pub put-requires : goal.put-requires
put-requires g c =
    low_next g.K.Kind.meaning g.met.K.Kind.laws c.args.front.base c.args.bound c.args.front.count c.args.part.now (by_level c.args.offers.now) c.requires.within
    c.loop-next.part c.loop-next.end (by_level c.loop-next.heads) c.loop-next.cursors c.loop-next.invariant c.in-Some.next c.in-Some.ensures

pub returns-in_err-end : goal.returns-in_err-end
returns-in_err-end g c row done later turn =
    let inv = c.loop-next.invariant in
    let p = err_from_is_err_and c.from_residual.result c.from_residual.ensures.1 in
    rw p.1 (
    overfull g.K.Kind.meaning g.met.K.Kind.laws c.args.front.base c.args.bound c.args.front.count c.args.part.now (by_level c.args.offers.now) c.requires.within
    c.loop-next.part c.loop-next.end (by_level c.loop-next.heads) c.loop-next.cursors inv c.in-Some.next c.in-Some.ensures g.row.K.coded c.keep_candidate.new.part p.0
    (c.in_err-end.ensures inv.kept c.args.part.now inv.is inv.ends inv.room) row done later turn
    )

pub loop-next-smaller : goal.loop-next-smaller
loop-next-smaller g c =
    let less = falls g.K.Kind.meaning g.met.K.Kind.laws c.args.front.base c.args.bound c.args.front.count c.args.part.now (by_level c.args.offers.now) c.requires.within
    c.loop-next.part c.loop-next.end (by_level c.loop-next.heads) c.loop-next.cursors c.loop-next.invariant c.in-Some.next c.in-Some.ensures in
    omega (arith, less)

pub loop-next-preserved : goal.loop-next-preserved
loop-next-preserved g c =
    let inv = c.loop-next.invariant in
    subst (λ hs. Going g.K.Kind.meaning c.args.front.base c.args.bound c.args.front.count c.args.part.now (by_level c.args.offers.now) c.keep_candidate.new.part c.in_ok-end.end hs (moved c.loop-next.cursors c.in-Some.next.level))
    (sym c.put.ensures) (
    goes_on g.K.Kind.meaning g.met.K.Kind.laws c.args.front.base c.args.bound c.args.front.count c.args.part.now (by_level c.args.offers.now) c.requires.within
    c.loop-next.part c.loop-next.end (by_level c.loop-next.heads) c.loop-next.cursors inv c.in-Some.next c.in-Some.ensures c.head.result c.head.ensures
    c.keep_candidate.new.part c.in_ok-end.end (c.in_ok-end.ensures inv.kept c.args.part.now inv.is inv.ends inv.room)
    )

pub returns : goal.returns
returns g c =
    complete g.K.Kind.meaning g.met.K.Kind.laws c.args.front.base c.args.bound c.args.front.count c.args.part.now (by_level c.args.offers.now) c.requires.within
    c.loop-next.part c.loop-next.end (by_level c.loop-next.heads) c.loop-next.cursors c.loop-next.invariant c.in_default.ensures g.row.K.coded
