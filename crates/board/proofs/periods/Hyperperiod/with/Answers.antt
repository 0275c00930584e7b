use Rattle.std.proofs.Common.{◌≡◌, ◌≤◌, Some, None, sym, ap, ◌∙◌, subst, arith}
use mathlib.Core.Logic.{∥∥₁_map}
use Rattle.std.proofs.lemmas.Bool.{le-leb, and_from, cond-true}
use Rattle.board.specs.Periods.{lcm, longest, OfPeriods}
use Rattle.board.proofs.Multiples.{lcm_pos}
use Rattle.board.proofs.Hyperperiods.{with_period}
use Rattle.board.proofs.Leveling.{bounds}
use Rattle.board.proofs.periods.Hyperperiod.with.Goals as goal

pub invariant_of-result : goal.invariant_of-result
invariant_of-result c =
    let h = c.args.self.now in
    let p = c.args.period in
    let is = c.common_multiple-micros.ensures.value in
    let fits = sym c.period_fits.ensures ∙ c.if-not-period_fits.false in
    let range = bounds 100 10000000 p fits in record { positive = omega (arith, lcm_pos h.micros p h.positive (omega (arith, range))); short = omega arith; made = subst (λ n. ∥ OfPeriods n ∥₁) (sym is) (∥∥₁_map h.made (with_period h.micros p fits)) }

pub returns : goal.returns
returns c =
    let h = c.args.self.now.micros in
    let p = c.args.period in
    let is : c.common_multiple-micros.result ≡ lcm h p = c.common_multiple-micros.ensures.value in
    let fits = sym c.period_fits.ensures ∙ c.if-not-period_fits.false in
    let short : lcm h p ≤ longest = omega arith in
    ap Some is ∙ sym (cond-true _ (Some (lcm h p)) None (and_from _ _ fits (le-leb (lcm h p) longest short)))
