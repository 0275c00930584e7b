-- Periods in µs, and their least common multiple as the first multiple that serves.
--   period_fits p         a period of 100 to 10,000,000 µs
--   first_from m a b n    the first of m, m + a, m + 2 a, .. that b divides, if it comes within n steps
--   lcm a b               the first of a, 2 a, 3 a, .. that b divides: it comes by the time of b a
--   hyperperiod ps        the least common multiple of the periods, 1 of none
--   longest               no hyperperiod is above 60,000,000 µs
--   GreatestDivisor a b g   g divides both a and b, and whatever divides both divides g
--   LeastMultiple a b m   both a and b divide m, and m divides whatever they both divide
--   OfPeriods h           h is the hyperperiod of some periods in range, and at least doubles with each of them
--   hyperperiod_with h p  the least common multiple with one period more; none if the period does not fit or it is too long
use Rattle.std.specs.Prelude.{◌≡◌, ℕ, zero, suc, ◌+◌, ◌%◌, ◌^◌, ◌≤◌, Bool, true, cond, ◌&&◌, List, [], ◌∷◌, length, Some, None, Option, ◌==◌, nat_le}
use Rattle.std.specs.Int.{◌∣◌}
use Rattle.std.specs.List.{list_all}
use Rattle.board.specs.Processors.{between}

abbrev pub period_fits : ℕ → Bool
period_fits p = between 100 10000000 p

abbrev pub first_from : ℕ → ℕ → ℕ → ℕ → ℕ
first_from m a b zero = m
first_from m a b (suc n) = let later = first_from (m + a) a b n in cond (m % b == 0) m later

abbrev pub lcm : ℕ → ℕ → ℕ
lcm a b = first_from a a b b

abbrev pub hyperperiod : List ℕ → ℕ
hyperperiod [] = 1
hyperperiod (p ∷ ps) = lcm (hyperperiod ps) p

pub record GreatestDivisor (a b g : ℕ) : Type 0 where
  pub first : g ∣ a
  pub second : g ∣ b
  pub greatest : (d : ℕ) → d ∣ a → d ∣ b → d ∣ g

pub record LeastMultiple (a b m : ℕ) : Type 0 where
  pub first : a ∣ m
  pub second : b ∣ m
  pub least : (c : ℕ) → a ∣ c → b ∣ c → m ∣ c

pub record OfPeriods (h : ℕ) : Type 0 where
  pub periods : List ℕ
  pub in_range : list_all period_fits periods ≡ true
  pub doubled : 2 ^ length periods ≤ h
  pub is : hyperperiod periods ≡ h

abbrev pub longest : ℕ
longest = 60000000

abbrev pub hyperperiod_with : ℕ → ℕ → Option ℕ
hyperperiod_with h p = cond (period_fits p && nat_le (lcm h p) longest) (Some (lcm h p)) None
