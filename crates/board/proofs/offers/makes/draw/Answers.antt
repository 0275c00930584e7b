use Rattle.std.proofs.Common.{◌≡◌, ◌+◌, ◌*◌, inl, inr, arith}
use Rattle.board.specs.Measures.{standby_sum}
use Rattle.board.proofs.Standby.{standby_within, standby_end}
use Rattle.board.proofs.offers.makes.draw.Goals as goal

pub overflow_add-draw : goal.overflow_add-draw
overflow_add-draw c =
    let left = c.loop-power.power-iterator in
    let rest = c.next.new.self in
    let turn : standby_sum left.a.rest.now left.b.rest.now ≡ c.in-Some.power.now * c.in-Some.share.now + standby_sum rest.a.rest.now rest.b.rest.now = rw (c.in-Some.ensures.steps.0, c.in-Some.ensures.steps.1) in
    omega (arith, turn, standby_within c.args.standby.now c.args.shares.now c.requires.1.0 c.requires.1.1)

pub returns : goal.returns
returns c =
    let left = c.loop-power.power-iterator in
    let ended = standby_end left.a.rest.now left.b.rest.now (elim c.in-None.ensures.steps [ inl p ↦ inl p.1.0 | inr q ↦ inr q.1.0 ]) in
    omega (arith, ended)
