-- Decimal numbers as text.
--   read_on n bs            the number that the digits bs give, read after those that gave n; none if a byte is no digit
--   plain most bs           there are 1 to `most` bytes, and no zero leads others
--   number_within most bs   the number that the bytes write in at most `most` digits, if they do
--   number_of bs            the same at 15 digits, which the numbers of job text have at most
--   WrittenReadBack         every number below 10 ^ 15, written in decimal, is read back as itself
use Rattle.std.specs.Prelude.{◌≡◌, ℕ, ◌+◌, ◌-◌, ◌*◌, ◌^◌, ◌<◌, Bool, cond, not, ◌&&◌, ◌||◌, List, [], ◌∷◌, length, Some, None, decimal, Option, ◌==◌, nat_le, slice_index}

abbrev pub read_on : ℕ → List ℕ → Option ℕ
read_on n [] = Some n
read_on n (b ∷ bs) = cond (nat_le 48 b && nat_le b 57) (read_on (n * 10 + (b - 48)) bs) None

abbrev pub plain : ℕ → List ℕ → Bool
plain most bs = (nat_le 1 (length bs) && nat_le (length bs) most) && (nat_le (length bs) 1 || not (slice_index bs 0 == 48))

abbrev pub number_within : ℕ → List ℕ → Option ℕ
number_within most bs = cond (plain most bs) (read_on 0 bs) None

abbrev pub number_of : List ℕ → Option ℕ
number_of bs = number_within 15 bs

abbrev pub WrittenReadBack : Type 0
WrittenReadBack = (n : ℕ) → n < 10 ^ 15 → number_of (decimal n) ≡ Some n
