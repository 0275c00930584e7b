use Rattle.std.proofs.Common.{◌/◌, ◌≤◌, sym, subst, mul-le-mul, div-le_self, arith}
use native.Mathlib.Nat.{pos_of_dvd_of_pos}
use Rattle.board.specs.Periods.{LeastMultiple}
use Rattle.board.proofs.Multiples.{by_divisor, lcm_is_least}
use Rattle.board.proofs.periods.common_multiple.Goals as goal

pub nonzero_div-result : goal.nonzero_div-result
nonzero_div-result c = pos_of_dvd_of_pos c.common_divisor.ensures.first c.requires.0

pub overflow_mul-result : goal.overflow_mul-result
overflow_mul-result c =
    let a = c.args.a in
    let g = c.common_divisor.result in
    let q : a / g ≤ 60000000 = omega (arith, div-le_self a g) in
    let b : c.args.b ≤ 10000000 = omega arith in
    omega (arith, mul-le-mul q b)

pub returns : goal.returns
returns c =
    let g = c.common_divisor.ensures in
    let low : 1 ≤ c.args.a = c.requires.0 in
    let other : 1 ≤ c.args.b = omega arith in
    let is = by_divisor c.args.a c.args.b low other c.common_divisor.result g.first g.second g.greatest in
    record { value = is; least = subst (λ m. LeastMultiple c.args.a c.args.b m) (sym is) (lcm_is_least c.args.a c.args.b low other) }
