-- Digits read one after another, and numbers that are read back as they were written.
use Rattle.std.proofs.Common.{◌≡◌, ℕ, zero, suc, ◌+◌, ◌-◌, ◌*◌, ◌/◌, ◌%◌, ◌^◌, ◌<◌, ◌≤◌, Bool, true, false, cond, ◌&&◌, leb, List, [], ◌∷◌, ◌++◌, length, get_or, Some, None, decimal, Option, refl, ap, ◌∙◌, arith, lit<}
use native.Mathlib.Nat.{pow-le-pow_right}
use Rattle.std.proofs.lemmas.Fmt.{decimal_by_steps, decimal_digit, decimal_nonempty, first_decimal, length-decimal-le}
use Rattle.std.proofs.lemmas.Bool.Decides.{nat_tests}
use Rattle.plantext.specs.Numbers.{read_on, plain, number_within, WrittenReadBack}

-- another digit fits 64 bits, behind at most 17
pub digit_fits : (n i : ℕ) → i < 18 → n < 10 ^ i → n < 10 ^ 17
digit_fits n i few small =
    let some : 0 < 10 = lit< tt in
    let le : i ≤ 17 = omega arith in
    let most = pow-le-pow_right {n = 10} some {i = i} {j = 17} le in
    omega arith

read_plain : (most : ℕ) (bs : List ℕ) → plain most bs ≡ true → number_within most bs ≡ read_on 0 bs
read_plain most bs is = rw is refl

pub plain_short : (most : ℕ) (bs : List ℕ) → plain most bs ≡ true → length bs ≤ most
plain_short most bs is = grind (arith, nat_tests)

-- a digit is read
read_digit : (n d : ℕ) (bs : List ℕ) → d < 10 → read_on n ((48 + d) ∷ bs) ≡ read_on (n * 10 + d) bs
read_digit n d bs digit = let back : 48 + d - 48 ≡ d = omega arith in grind (arith, nat_tests)

-- what a digit lets through
still : (digit : Bool) (p q : Option ℕ) (m k : ℕ) → (p ≡ Some m → q ≡ Some k) → cond digit p None ≡ Some m → cond digit q None ≡ Some k
still true p q m k next is = next is
still false p q m k next is = cc

-- a last digit d makes m into m * 10 + d
read_last : (n m d : ℕ) (bs : List ℕ) → d < 10 → read_on n bs ≡ Some m → read_on n (bs ++ ((48 + d) ∷ [])) ≡ Some (m * 10 + d)
read_last n m d [] digit is = read_digit n d [] digit ∙ ap (λ k. Some (k * 10 + d)) (let same : n ≡ m = cc in same)
read_last n m d (b ∷ bs) digit is = still (leb 48 b && leb b 57) _ _ m (m * 10 + d) (read_last (n * 10 + (b - 48)) m d bs digit) is

pub read_decimal : (n : ℕ) → n < 2 ^ 64 → read_on 0 (decimal n) ≡ Some n
read_decimal =
    decimal_by_steps (λ n ds. read_on 0 ds ≡ Some n)
    (λ n digit. read_digit 0 n [] digit ∙ ap Some (let same : 0 * 10 + n ≡ n = omega arith in same))
    (λ n ds large is. read_last 0 (n / 10) (n % 10) ds (omega arith) is ∙ ap Some (let same : n / 10 * 10 + n % 10 ≡ n = omega arith in same))

plain_decimal : (n : ℕ) → n < 10 ^ 15 → plain 15 (decimal n) ≡ true
plain_decimal zero small = ap (plain 15) (decimal_digit 0 (lit< tt))
plain_decimal (suc n) small =
    let first : 48 < get_or (decimal (suc n)) 0 0 = first_decimal (suc n) (omega arith) (omega arith) in
    let some : 0 < length (decimal (suc n)) = decimal_nonempty (suc n) (omega arith) in
    let few : length (decimal (suc n)) ≤ 15 = length-decimal-le 15 (suc n) (omega arith) small (omega arith) in
    grind (arith, nat_tests)

pub written_read_back : WrittenReadBack
written_read_back n small = read_plain 15 (decimal n) (plain_decimal n small) ∙ read_decimal n (omega arith)
