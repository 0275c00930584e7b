-- The laws of the kinds with one number.
use Rattle.std.specs.Prelude.{◌≡◌, ℕ, ◌+◌, ◌*◌, ◌^◌, ◌<◌, ◌≤◌, T, ◌⊎◌, nat_le}
use Rattle.std.proofs.Common.{ap, inl, inr, arith, leb→le, le→leb}
use Rattle.std.proofs.Math.Decide.{dec_le}
use Rattle.board.proofs.Bounds as bounds
use Rattle.cost.specs.Kinds.{Sum, nothing, entry, both, Total, Laws, StrictLaws}
use Rattle.cost.specs.Models.{energy, of_energy, peak, of_draw}
use Rattle.cost.specs.declared.energies.Energy.{Energy}

-- the order of numbers, as a kind states it
pub number_either : (m n : ℕ) → T (nat_le m n) ⊎ T (nat_le n m)
number_either m n = elim (dec_le m n) [ yes p ↦ inl (le→leb m n p) | no q ↦ inr (le→leb n m (omega arith)) ]

pub number_same : (m n : ℕ) → T (nat_le m n) → T (nat_le n m) → m ≡ n
number_same m n p q = omega (arith, leb→le m n p, leb→le n m q)

pub number_chain : (l m n : ℕ) → T (nat_le l m) → T (nat_le m n) → T (nat_le l n)
number_chain l m n p q = le→leb l n (omega (arith, leb→le l m p, leb→le m n q))

pub sum_grows : (m n c : ℕ) → T (nat_le m n) → T (nat_le (m + c) (n + c))
sum_grows m n c p = le→leb (m + c) (n + c) (omega (arith, leb→le m n p))

-- the energy of n entries is at most n times the most that one entry has
summed_energy : {n : ℕ} {c : Energy} → Sum energy n c → c.picojoules ≤ n * 6600000000000000
summed_energy nothing = omega arith
summed_energy (entry o) = omega (arith, bounds.energy_bound _ o)
summed_energy (both s t) = omega (arith, summed_energy s, summed_energy t)

-- so 64 bits hold a total
total_fits : (c : Energy) → Total energy c → c.picojoules < 2 ^ 64
total_fits c t = omega (arith, summed_energy t.sum)

pub energy_laws : Laws energy
energy_laws = record {
  priced = λ m o. tt;
  added = λ a b _ _ t. le→leb _ _ (omega (arith, total_fits _ t));
  either = λ a b _ _. number_either a.picojoules b.picojoules;
  same = λ a b _ _ p q. ap of_energy (number_same a.picojoules b.picojoules p q);
  chain = λ a b c _ _ _. number_chain a.picojoules b.picojoules c.picojoules;
  assoc = λ a b c _ _ _ _ _ _ _. ap of_energy (omega arith);
  comm = λ a b _ _ _ _. ap of_energy (omega arith);
  idle = λ a _. ap of_energy (omega arith);
  grows = λ a b c _ _ _ _ _. sum_grows a.picojoules b.picojoules c.picojoules;
}

-- what is equal with c added was equal before
energy_apart : (a b c : Energy) → energy.plus a c ≡ energy.plus b c → a ≡ b
energy_apart a b c e = let sums : a.picojoules + c.picojoules ≡ b.picojoules + c.picojoules = ap (λ (x : Energy). x.picojoules) e in ap of_energy (omega arith)

pub energy_strict : StrictLaws energy
energy_strict = record {
  laws = energy_laws;
  strict = λ a b c _ _ _ _ _ p. (sum_grows a.picojoules b.picojoules c.picojoules p.0, λ e. p.1 (energy_apart a b c e));
}

pub peak_laws : Laws peak
peak_laws = record {
  priced = λ m o. tt;
  added = λ a b _ _ _. tt;
  either = λ a b _ _. number_either a.microwatts b.microwatts;
  same = λ a b _ _ p q. ap of_draw (number_same a.microwatts b.microwatts p q);
  chain = λ a b c _ _ _. number_chain a.microwatts b.microwatts c.microwatts;
  assoc = λ a b c _ _ _ _ _ _ _. ap of_draw (omega arith);
  comm = λ a b _ _ _ _. ap of_draw (omega arith);
  idle = λ a _. ap of_draw (omega arith);
  grows = λ a b c _ _ _ _ _ p. le→leb _ _ (omega (arith, leb→le _ _ p));
}
