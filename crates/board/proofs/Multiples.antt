-- The least common multiple, as the definition finds it, divides every common multiple; and it is what Euclid's divisor gives.
use Rattle.std.proofs.Common.{◌≡◌, ℕ, zero, suc, ◌+◌, ◌-◌, ◌*◌, ◌/◌, ◌%◌, ◌<◌, ◌≤◌, eqb, sym, refl, ap, ◌∙◌, subst, mod-lt, mul_assoc, suc-mul, mul_comm, arith}
use Prim.Native.Nat.{◌∣◌}
use native.Mathlib.Nat.{dvd_refl, dvd-add, dvd-mod_iff, dvd-mul_left, dvd-mul_right, dvd_antisymm, pos_of_dvd_of_pos, dvd_of_mod-eq-zero, mod-eq-zero_of_dvd, mul-div_cancel', div-mul_cancel, mul-dvd-mul_left, mul-dvd-mul_right, dvd_of_mul-dvd-mul_left, dvd_of_mul-dvd-mul_right}
use Rattle.std.proofs.lemmas.Bool.{eqb-true, eq-eqb, cond_both, cond-true}
use Rattle.board.specs.Periods.{first_from, lcm, LeastMultiple}

-- the search never goes back
pub from_on : (m a b n : ℕ) → m ≤ first_from m a b n
from_on m a b zero = omega arith
from_on m a b (suc n) = cond_both (eqb (m % b) 0) m (first_from (m + a) a b n) (λ x. m ≤ x) (λ _. omega arith) (λ _. omega (arith, from_on (m + a) a b n))

-- it goes by multiples of a
by_multiples : (m a b n : ℕ) → a ∣ m → a ∣ first_from m a b n
by_multiples m a b zero h = h
by_multiples m a b (suc n) h = cond_both (eqb (m % b) 0) m (first_from (m + a) a b n) (λ x. a ∣ x) (λ _. h) (λ _. by_multiples (m + a) a b n (dvd-add a h (dvd_refl a)))

one_further : (m a k : ℕ) → m + suc k * a ≡ m + a + k * a
one_further m a k = omega (arith, suc-mul k a)

-- it finds what b divides
found : (m a b n k : ℕ) → k ≤ n → b ∣ m + k * a → b ∣ first_from m a b n
found m a b zero zero h d = subst (λ x. b ∣ x) (omega (arith, suc-mul 0 a)) d
found m a b zero (suc k) h d = absurd (omega arith)
found m a b (suc n) zero h d =
    let e : m + 0 * a ≡ m = omega arith in
    subst (λ x. b ∣ x) (sym (cond-true (eqb (m % b) 0) m (first_from (m + a) a b n) (eq-eqb (m % b) 0 (mod-eq-zero_of_dvd b (subst (λ x. b ∣ x) e d))))) (subst (λ x. b ∣ x) e d)
found m a b (suc n) (suc k) h d =
    cond_both (eqb (m % b) 0) m (first_from (m + a) a b n) (λ x. b ∣ x) (λ e. dvd_of_mod-eq-zero b (eqb-true (m % b) 0 e)) (λ _. found (m + a) a b n k (omega arith) (subst (λ x. b ∣ x) (one_further m a k) d))

-- and nothing before it
none_before : (m a b n k : ℕ) → b ∣ m + k * a → first_from m a b n ≤ m + k * a
none_before m a b zero k d = omega arith
none_before m a b (suc n) zero d =
    let e : m + 0 * a ≡ m = omega arith in
    let here : first_from m a b (suc n) ≡ m = cond-true (eqb (m % b) 0) m (first_from (m + a) a b n) (eq-eqb (m % b) 0 (mod-eq-zero_of_dvd b (subst (λ x. b ∣ x) e d))) in
    omega arith
none_before m a b (suc n) (suc k) d =
    cond_both (eqb (m % b) 0) m (first_from (m + a) a b n) (λ x. x ≤ m + suc k * a) (λ _. omega arith) (λ _. omega (arith, none_before (m + a) a b n k (subst (λ x. b ∣ x) (one_further m a k) d), one_further m a k))

one_before : (n a : ℕ) → 1 ≤ n → n * a ≡ a + (n - 1) * a
one_before zero a h = absurd (omega arith)
one_before (suc n) a h = let e : suc n - 1 ≡ n = omega arith in rw e (omega (arith, suc-mul n a))

module _ (a b : ℕ) (a_pos : 1 ≤ a) (b_pos : 1 ≤ b) where
  pub lcm_first : a ∣ lcm a b
  lcm_first = by_multiples a a b b (dvd_refl a)

  pub lcm_second : b ∣ lcm a b
  lcm_second =
      found a a b b (b - 1) (omega arith) (subst (λ x. b ∣ x) (one_before b a b_pos) (dvd-mul_right b a))

  pub lcm_pos : 1 ≤ lcm a b
  lcm_pos = omega (arith, from_on a a b b)

  -- no common multiple is smaller
  lcm_below : (c : ℕ) → 1 ≤ c → a ∣ c → b ∣ c → lcm a b ≤ c
  lcm_below c pos p q =
      let times : c / a * a ≡ c = div-mul_cancel a p in
      let some : 1 ≤ c / a = more (c / a) times in
      let on : c / a * a ≡ a + (c / a - 1) * a = one_before (c / a) a some in
      subst (λ x. lcm a b ≤ x) (sym on ∙ times) (none_before a a b b (c / a - 1) (subst (λ x. b ∣ x) (sym times ∙ on) q))
    where
      more : (n : ℕ) → n * a ≡ c → 1 ≤ n
      more zero e = absurd (omega arith)
      more (suc n) e = omega arith

  -- what is over of a common multiple would be a smaller one
  pub lcm_least : (c : ℕ) → a ∣ c → b ∣ c → lcm a b ∣ c
  lcm_least c p q =
      let m = lcm a b in
      let over : c % m < m = mod-lt c lcm_pos in
      let left : a ∣ c % m = (dvd-mod_iff a lcm_first).1 p in
      let right : b ∣ c % m = (dvd-mod_iff b lcm_second).1 q in
      dvd_of_mod-eq-zero m (none (c % m) over left right)
    where
      none : (n : ℕ) → n < lcm a b → a ∣ n → b ∣ n → n ≡ 0
      none zero h l r = refl
      none (suc n) h l r = absurd (omega (arith, lcm_below (suc n) (omega arith) l r))

  pub lcm_is_least : LeastMultiple a b (lcm a b)
  lcm_is_least = record { first = lcm_first; second = lcm_second; least = lcm_least }

  pub lcm_only : (m : ℕ) → LeastMultiple a b m → lcm a b ≡ m
  lcm_only m l = dvd_antisymm (lcm_least m l.first l.second) (l.least (lcm a b) lcm_first lcm_second)

  -- Euclid's divisor gives the least common multiple
  module _ (g : ℕ) (g_a : g ∣ a) (g_b : g ∣ b) (g_all : (d : ℕ) → d ∣ a → d ∣ b → d ∣ g) where
    product : a / g * b * g ≡ a * b
    product = mul_assoc (a / g) b g ∙ ap (λ x. a / g * x) (mul_comm b g) ∙ sym (mul_assoc (a / g) g b) ∙ ap (λ x. x * b) (div-mul_cancel g g_a)

    exchange : a * (b / g) ≡ a / g * b
    exchange = ap (λ x. x * (b / g)) (sym (div-mul_cancel g g_a)) ∙ mul_assoc (a / g) g (b / g) ∙ ap (λ x. a / g * x) (mul-div_cancel' g g_b)

    -- the product over the least common multiple divides both
    rest : ℕ
    rest = a * b / lcm a b

    rest_is : lcm a b * rest ≡ a * b
    unfolding rest
    rest_is = mul-div_cancel' (lcm a b) (lcm_least (a * b) (dvd-mul_right a b) (dvd-mul_left b a))

    rest_first : rest ∣ a
    rest_first = dvd_of_mul-dvd-mul_right {k = b} rest {n = a} b_pos (subst (λ x. x ∣ a * b) (mul_comm b rest) (subst (λ x. b * rest ∣ x) rest_is (mul-dvd-mul_right b lcm_second rest)))

    rest_second : rest ∣ b
    rest_second = dvd_of_mul-dvd-mul_left {k = a} rest {n = b} a_pos (subst (λ x. a * rest ∣ x) rest_is (mul-dvd-mul_right a lcm_first rest))

    pub by_divisor : a / g * b ≡ lcm a b
    by_divisor =
        let m = a / g * b in
        let first : a ∣ m = subst (λ x. a ∣ x) exchange (dvd-mul_right a (b / g)) in
        let second : b ∣ m = dvd-mul_left b (a / g) in
        let rest_pos : 1 ≤ rest = pos_of_dvd_of_pos rest_first a_pos in
        let back : m ∣ lcm a b = dvd_of_mul-dvd-mul_right {k = rest} m {n = lcm a b} rest_pos (subst (λ x. m * rest ∣ x) (product ∙ sym rest_is) (mul-dvd-mul_left rest m (g_all rest rest_first rest_second))) in
        dvd_antisymm back (lcm_least m first second)
