-- One period more.
use Rattle.std.proofs.Common.{◌≡◌, ℕ, zero, suc, ◌+◌, ◌%◌, ◌≤◌, true, eqb, ◌∷◌, sym, ap, subst, inl, inr, pow-suc, arith}
use Rattle.std.proofs.lemmas.Bool.{and_from, and_parts, leb-true, eq-eqb, ne_eqb, cond-true, cond-false, cases_eq}
use Rattle.board.specs.Periods.{first_from, lcm, period_fits, OfPeriods}
use Rattle.board.proofs.Multiples.{from_on}

-- a period that divides the hyperperiod leaves it as it is
pub lcm_same : (h p : ℕ) → 1 ≤ p → h % p ≡ 0 → lcm h p ≡ h
lcm_same h zero pos e = absurd (omega arith)
lcm_same h (suc p) pos e = cond-true (eqb (h % suc p) 0) h (first_from (h + h) h (suc p) p) (eq-eqb (h % suc p) 0 e)

-- any other at least doubles it
lcm_doubles : (h p : ℕ) → 1 ≤ p → (h % p ≡ 0 → ⊥) → h + h ≤ lcm h p
lcm_doubles h zero pos e = absurd (omega arith)
lcm_doubles h (suc p) pos e = omega (arith, from_on (h + h) h (suc p) p, cond-false (eqb (h % suc p) 0) h (first_from (h + h) h (suc p) p) (ne_eqb (h % suc p) 0 e))

pub period_pos : (p : ℕ) → period_fits p ≡ true → 1 ≤ p
period_pos p f = omega (arith, leb-true 100 p (and_parts _ _ f).0)

pub with_period : (h p : ℕ) → period_fits p ≡ true → OfPeriods h → OfPeriods (lcm h p)
with_period h p fits o = elim (cases_eq (h % p) 0) [
  | inl e ↦ subst (λ n. OfPeriods n) (sym (lcm_same h p (period_pos p fits) e)) o
  | inr e ↦ record {
    periods = p ∷ o.periods;
    in_range = and_from _ _ fits o.in_range;
    doubled = rw pow-suc (omega (arith, o.doubled, lcm_doubles h p (period_pos p fits) e));
    is = ap (λ n. lcm n p) o.is;
  }
]
