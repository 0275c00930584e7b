-- What a kind of cost is, what its totals are, and the laws that it keeps.
--   Meaning C         what a kind's calls answer: its costs are values of C
--   most_entries      a total has at most 48 entries
--   Sum k n c         c is a sum of n entries of the kind k, in some order and with any brackets
--   Total k c         c is zero, an entry, or a sum of at most 48 entries
--   NoDearer k a b    a is no dearer than b
--   Cheaper k a b     a is no dearer than b, and not equal to it
--   Laws k            what every kind keeps, wherever the sums named are totals
--   StrictLaws k      what a strict kind keeps: the laws, and one more
use Rattle.std.specs.Prelude.{◌≡◌, ℕ, ◌+◌, ◌≤◌, Bool, cond, T, ◌⊎◌, Some, None, Option, ◌≢◌}
use Rattle.board.specs.declared.measures.Measure.{Measure}
use Rattle.board.specs.Measures.{Offered}

pub record Meaning (C : Type 0) : Type 0 where
  -- pricing answers a measure, or declines it; the entry that it answers
  pub prices : Measure → Bool
  pub worth : Measure → C
  pub none : C
  -- addition answers two costs, or declines them; the sum that it answers
  pub adds : C → C → Bool
  pub plus : C → C → C
  -- the first is no dearer than the second
  pub under : C → C → Bool

-- what a call answers that may decline
abbrev pub unless_declined : {C : Type 0} → Bool → C → Option C
unless_declined answers c = cond answers (Some c) None

abbrev pub most_entries : ℕ
most_entries = 48

pub data Sum {C : Type 0} (k : Meaning C) : ℕ → C → Type 0 where
  nothing : Sum k 0 k.none
  entry : {m : Measure} → Offered m → Sum k 1 (k.worth m)
  both : {i j : ℕ} {a b : C} → Sum k i a → Sum k j b → Sum k (i + j) (k.plus a b)

pub record Total {C : Type 0} (k : Meaning C) (c : C) : Type 0 where
  pub count : ℕ
  pub few : count ≤ most_entries
  pub sum : Sum k count c

abbrev pub NoDearer : {C : Type 0} → Meaning C → C → C → Type 0
NoDearer k a b = T (k.under a b)

abbrev pub Cheaper : {C : Type 0} → Meaning C → C → C → Type 0
Cheaper k a b = NoDearer k a b × (a ≢ b)

pub record Laws {C : Type 0} (k : Meaning C) : Type 0 where
  -- pricing declines no measure of an offered level, and addition no two totals whose sum is a total
  pub priced : (m : Measure) → Offered m → T (k.prices m)
  pub added : (a b : C) → Total k a → Total k b → Total k (k.plus a b) → T (k.adds a b)
  -- of two totals one is no dearer than the other; both ways only if they are equal; and so on down a chain
  pub either : (a b : C) → Total k a → Total k b → NoDearer k a b ⊎ NoDearer k b a
  pub same : (a b : C) → Total k a → Total k b → NoDearer k a b → NoDearer k b a → a ≡ b
  pub chain : (a b c : C) → Total k a → Total k b → Total k c → NoDearer k a b → NoDearer k b c → NoDearer k a c
  -- sums may be taken in any order, and zero adds nothing
  pub assoc : (a b c : C) → Total k a → Total k b → Total k c → Total k (k.plus a b) → Total k (k.plus b c) → Total k (k.plus (k.plus a b) c) → Total k (k.plus a (k.plus b c)) → k.plus (k.plus a b) c ≡ k.plus a (k.plus b c)
  pub comm : (a b : C) → Total k a → Total k b → Total k (k.plus a b) → Total k (k.plus b a) → k.plus a b ≡ k.plus b a
  pub idle : (a : C) → Total k a → k.plus a k.none ≡ a
  -- adding the same to both keeps the order
  pub grows : (a b c : C) → Total k a → Total k b → Total k c → Total k (k.plus a c) → Total k (k.plus b c) → NoDearer k a b → NoDearer k (k.plus a c) (k.plus b c)

pub record StrictLaws {C : Type 0} (k : Meaning C) : Type 0 where
  pub laws : Laws k
  -- adding the same to both keeps a difference
  pub strict : (a b c : C) → Total k a → Total k b → Total k c → Total k (k.plus a c) → Total k (k.plus b c) → Cheaper k a b → Cheaper k (k.plus a c) (k.plus b c)
