-- The standby sum of all devices.
use Rattle.std.proofs.Common.{◌≡◌, ℕ, ◌*◌, ◌≤◌, true, leb, List, [], ◌∷◌, length, ◌⊎◌, inl, inr, refl, mul-le-mul, arith}
use Rattle.std.specs.List.{list_all}
use Rattle.std.proofs.lemmas.Bool.{and_parts, leb-true}
use Rattle.board.specs.Processors.{standby_fits}
use Rattle.board.specs.Tasks.{shares_fit}
use Rattle.board.specs.Measures.{standby_sum}

pub standby_end : (ws ss : List ℕ) → (length ws ≡ 0) ⊎ (length ss ≡ 0) → standby_sum ws ss ≡ 0
standby_end [] ss h = refl
standby_end (w ∷ ws) [] h = refl
standby_end (w ∷ ws) (s ∷ ss) (inl h) = absurd (omega arith)
standby_end (w ∷ ws) (s ∷ ss) (inr h) = absurd (omega arith)

-- each device draws at most 5,000,000 µW
product_within : (w s : ℕ) → leb w 5000 ≡ true → leb s 1000 ≡ true → w * s ≤ 5000000
product_within w s p q = omega (arith, mul-le-mul (leb-true w 5000 p) (leb-true s 1000 q))

few_devices : (ws : List ℕ) → standby_fits ws ≡ true → length ws ≤ 8
few_devices ws fit = leb-true (length ws) 8 (and_parts _ _ fit).0

sum_each : (ws ss : List ℕ) → list_all (λ w. leb w 5000) ws ≡ true → list_all (λ s. leb s 1000) ss ≡ true → standby_sum ws ss ≤ length ws * 5000000
sum_each [] ss p q = omega arith
sum_each (w ∷ ws) [] p q = omega arith
sum_each (w ∷ ws) (s ∷ ss) p q =
    let pw = and_parts (leb w 5000) (list_all (λ w. leb w 5000) ws) p in
    let qs = and_parts (leb s 1000) (list_all (λ s. leb s 1000) ss) q in
    omega (arith, product_within w s pw.0 qs.0, sum_each ws ss pw.1 qs.1)

-- all devices together draw at most 40,000,000 µW
pub standby_within : (ws ss : List ℕ) → standby_fits ws ≡ true → shares_fit (length ws) ss ≡ true → standby_sum ws ss ≤ 40000000
standby_within ws ss fit shared =
    omega (arith, sum_each ws ss (and_parts _ _ fit).1 (and_parts _ _ shared).1, few_devices ws fit)
