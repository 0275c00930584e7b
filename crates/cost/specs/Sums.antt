-- What holds of the sums of every kind, however they are taken.
--   Entries k es       each of es is a sum of one entry of the kind k
--   total_of k es      zero, and then the entries from the last of es to the first
--   Reordered xs ys    ys is xs in another order
--   NeverDeclined k    pricing answers every measure of an offered level, and addition every sum of at most 48 entries that takes one entry more
--   OrderKept k        one entry more keeps the order of two sums of fewer than 48 entries
--   AnyOrder k         at most 48 entries have one total, whatever their order
use Rattle.std.specs.Prelude.{◌≡◌, ℕ, ◌<◌, ◌≤◌, List, [], ◌∷◌, length, Some}
use Rattle.std.specs.List.{AllByRecursion}
use Rattle.board.specs.declared.measures.Measure.{Measure}
use Rattle.board.specs.Measures.{Offered}
use Rattle.cost.specs.Kinds.{Meaning, unless_declined, most_entries, Sum, NoDearer}

abbrev pub Entries : {C : Type 0} → Meaning C → List C → Type 0
Entries k es = AllByRecursion (Sum k 1) es

abbrev pub total_of : {C : Type 0} → Meaning C → List C → C
total_of k [] = k.none
total_of k (e ∷ es) = k.plus (total_of k es) e

pub data Reordered {X : Type 0} : List X → List X → Type 0 where
  no_items : Reordered [] []
  same_first : {x : X} {xs ys : List X} → Reordered xs ys → Reordered (x ∷ xs) (x ∷ ys)
  first_two : {x y : X} {xs : List X} → Reordered (x ∷ y ∷ xs) (y ∷ x ∷ xs)
  by_way_of : {xs ys zs : List X} → Reordered xs ys → Reordered ys zs → Reordered xs zs

pub record NeverDeclined {C : Type 0} (k : Meaning C) : Type 0 where
  pub priced : (m : Measure) → Offered m → unless_declined (k.prices m) (k.worth m) ≡ Some (k.worth m)
  pub added : (n : ℕ) (c e : C) → Sum k n c → Sum k 1 e → n < most_entries → unless_declined (k.adds c e) (k.plus c e) ≡ Some (k.plus c e)

abbrev pub OrderKept : {C : Type 0} → Meaning C → Type 0
OrderKept {C} k = (i j : ℕ) (a b e : C) → Sum k i a → Sum k j b → Sum k 1 e → i < most_entries → j < most_entries → NoDearer k a b → NoDearer k (k.plus a e) (k.plus b e)

abbrev pub AnyOrder : {C : Type 0} → Meaning C → Type 0
AnyOrder {C} k = (es fs : List C) → Reordered es fs → length es ≤ most_entries → Entries k es → total_of k es ≡ total_of k fs
