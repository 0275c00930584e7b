use Rattle.std.proofs.Common.{◌≡◌, ◌∷◌, sym}
use Rattle.fronts.specs.Merging.{keep}
use Rattle.fronts.proofs.Keeping.{passed, dropped, replaced, dearer, first_kept, pushed, full}
use Rattle.fronts.proofs.merge.keep_candidate.Goals as goal
use Rattle.fronts.proofs.merge.keep_candidate.Goals.{then-end-count+in-LighterAndDearer, else-end-count}

pub returns-then-not-is_open : goal.returns-then-not-is_open
returns-then-not-is_open g c kept old is ends room =
    passed g.K.Kind.meaning c.args.bound c.args.count c.args.end old c.args.part.now c.args.next (sym c.if-not-is_open.ensures) kept is ends room

pub returns-in-NoLighter : goal.returns-in-NoLighter
returns-in-NoLighter g c kept old is ends room =
    dropped g.K.Kind.meaning c.args.bound c.args.count c.args.end old c.args.part.now c.args.next (sym c.if-not-is_open.ensures)
    c.index-part-end.result c.if-end-count.true c.index-part-end.is c.in-NoLighter.ensures kept is ends room

pub returns-in-Lighter : goal.returns-in-Lighter
returns-in-Lighter g c kept old is ends room =
    replaced g.K.Kind.meaning c.args.bound c.args.count c.args.end old c.args.part.now c.args.next (sym c.if-not-is_open.ensures)
    c.index-part-end.result c.if-end-count.true c.index-part-end.is c.in-Lighter.ensures kept is ends room

-- where the candidate is lighter and dearer than the last one kept, or the first one
pub returns-then-end-part : goal.returns-then-end-part
returns-then-end-part g c kept old is ends room =
    let longer : keep g.K.Kind.meaning c.args.bound kept c.args.next ≡ c.args.next ∷ kept =
    elim c.if-end-count.branch [
      | then-end-count+in-LighterAndDearer w ↦
          dearer g.K.Kind.meaning c.args.bound c.args.count c.args.end old c.args.part.now c.args.next (sym c.if-not-is_open.ensures)
          w.index-part-end.result w.if-end-count.true w.index-part-end.is w.in-LighterAndDearer.ensures kept is ends room
      | else-end-count w ↦
          first_kept g.K.Kind.meaning c.args.bound c.args.count c.args.end old c.args.part.now c.args.next (sym c.if-not-is_open.ensures) w.if-end-count.false kept ends
    ] in
    full g.K.Kind.meaning c.args.bound c.args.count c.args.end old c.args.part.now c.args.next kept is ends room longer _ c.if-end-part.true

pub returns : goal.returns
returns g c kept old is ends room =
    let longer : keep g.K.Kind.meaning c.args.bound kept c.args.next ≡ c.args.next ∷ kept =
    elim c.if-end-count.branch [
      | then-end-count+in-LighterAndDearer w ↦
          dearer g.K.Kind.meaning c.args.bound c.args.count c.args.end old c.args.part.now c.args.next (sym c.if-not-is_open.ensures)
          w.index-part-end.result w.if-end-count.true w.index-part-end.is w.in-LighterAndDearer.ensures kept is ends room
      | else-end-count w ↦
          first_kept g.K.Kind.meaning c.args.bound c.args.count c.args.end old c.args.part.now c.args.next (sym c.if-not-is_open.ensures) w.if-end-count.false kept ends
    ] in
    pushed g.K.Kind.meaning c.args.bound c.args.count c.args.end old c.args.part.now c.args.next kept is ends room longer c.if-end-part.false
