use Rattle.std.proofs.Common.{◌≡◌, sym, subst}
use Prim.Native.Nat.{◌∣◌}
use native.Mathlib.Nat.{dvd_refl, dvd-zero, dvd-mod_iff}
use Rattle.board.proofs.periods.common_divisor.Goals as goal

pub loop-smaller-init : goal.loop-smaller-init
loop-smaller-init c = ((λ d p q. (p, q)), λ d p q. (p, q))

pub loop-smaller-preserved : goal.loop-smaller-preserved
loop-smaller-preserved c =
    let x = c.loop-smaller.larger in
    let y = c.loop-smaller.smaller in (
      (λ d p q. c.loop-smaller.invariant.0 d ((dvd-mod_iff d p).0 q) p),
      λ d p q. let xy = c.loop-smaller.invariant.1 d p q in (xy.1, (dvd-mod_iff d xy.1).1 xy.0),
    )

pub returns : goal.returns
returns c =
    let x = c.loop-smaller.larger in
    let y = c.loop-smaller.smaller in
    let none : y ≡ 0 = c.loop-smaller-test.false in
    let all : x ∣ y = subst (λ n. x ∣ n) (sym none) (dvd-zero x) in
    let both = c.loop-smaller.invariant.0 x (dvd_refl x) all in
    record { first = both.0; second = both.1; greatest = λ d p q. (c.loop-smaller.invariant.1 d p q).0 }
