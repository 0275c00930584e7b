use Rattle.std.proofs.Common.{◌≡◌, ◌+◌, [], ◌∷◌, List, length, length-append, take, drop, Option, sym, ap, ◌∙◌, subst, rules}
use Rattle.std.specs.Option.{option_map}
use Rattle.board.specs.declared.periods.Hyperperiod.{Hyperperiod}
use Rattle.board.specs.declared.tasks.Task.{Task}
use Rattle.board.specs.Periods.{hyperperiod}
use Rattle.tally.proofs.Periods.{dues}
use Rattle.fronts.proofs.Lasts.{last_taken}
use Rattle.book.specs.Tasks.{figures_of, if_short}
use Rattle.book.proofs.Joints.{joint_more, joint_too_long, joint_all, short_enough, too_long}
use Rattle.book.proofs.periods.hyperperiod_of.Goals as goal

pub returns-in_err-joint : goal.returns-in_err-joint
returns-in_err-joint c =
    let xs = c.args.tasks.now in
    let rest = c.next.new.self.iter.rest.now in
    let o = c.in-Some.standing.now in
    let step = c.in-Some.ensures.steps in
    let inv = c.loop-standing.invariant in
    let p = last_taken rest xs o (sym step ∙ inv.1 ∙ ap (λ (ys : List (Option Task)). take (length ys) xs) step) in
    let on : length c.loop-standing.standing-iterator.iter.rest.now ≡ length rest + 1 = ap length step ∙ length-append rest (o ∷ []) in
    let long = joint_too_long xs (length rest) o p.1 (p.2 o) c.loop-standing.joint.micros (subst (λ n. c.loop-standing.joint.micros ≡ hyperperiod (dues (drop n (figures_of xs)))) on inv.0) c.requires c.in_err-joint.ensures in
    ap (option_map (λ (h : Hyperperiod). h.micros)) c.from_residual.ensures ∙ too_long (hyperperiod (dues (figures_of xs))) long ∙ ap if_short (joint_all (figures_of xs))

pub loop-standing-preserved : goal.loop-standing-preserved
loop-standing-preserved c =
    let xs = c.args.tasks.now in
    let rest = c.next.new.self.iter.rest.now in
    let o = c.in-Some.standing.now in
    let step = c.in-Some.ensures.steps in
    let inv = c.loop-standing.invariant in
    let p = last_taken rest xs o (sym step ∙ inv.1 ∙ ap (λ (ys : List (Option Task)). take (length ys) xs) step) in
    let on : length c.loop-standing.standing-iterator.iter.rest.now ≡ length rest + 1 = ap length step ∙ length-append rest (o ∷ []) in
    (joint_more xs (length rest) o p.1 (p.2 o) c.loop-standing.joint.micros c.in_ok-joint.joint.micros (subst (λ n. c.loop-standing.joint.micros ≡ hyperperiod (dues (drop n (figures_of xs)))) on inv.0) c.in_ok-joint.ensures, p.0)

pub returns : goal.returns
returns c =
    let xs = c.args.tasks.now in
    let none : length c.loop-standing.standing-iterator.iter.rest.now ≡ 0 = search rules in
    let is : c.loop-standing.joint.micros ≡ hyperperiod (dues (figures_of xs)) = c.loop-standing.invariant.0 ∙ ap (λ n. hyperperiod (dues (drop n (figures_of xs)))) none in
    short_enough c.loop-standing.joint.micros c.loop-standing.joint.short ∙ ap if_short (is ∙ joint_all (figures_of xs))
