-- Rows, and all the ways to give each row a level. No costs are compared here.
--   Offer C              a level that a row may run at: its number, its load in µs, and its entry in the cost
--   Row C                a task's port, its limit in µs, and its offers from the lowest level on
--   Taken C              a row and the offer that it was given
--   In x xs              x stands in the list
--   some test xs         the test holds of some x of the list
--   each_with f xs ys    f of every x with every y
--   beginnings done      all beginnings of the rows: each gives every row one of its offers
--   choices rows         a choice is a beginning of all rows
--   load b               the sum of the loads of a beginning, in µs
--   keeps b              at each row of the beginning the sum of loads so far is within the row's limit
--   smallest os          the smallest load that is offered
--   fits sum later       after this sum of loads, the smallest loads of the later rows keep their limits
--   open_to later b      the beginning keeps its limits, and followed by the smallest loads the later ones too
-- Rows that are done stand the latest in front, and so does what a beginning gave them; later rows stand from the next one on.
use Rattle.std.specs.Prelude.{◌≡◌, ℕ, ◌+◌, min, Bool, true, false, ◌&&◌, ◌||◌, ◌⊎◌, List, [], ◌∷◌, ◌++◌, map, reverse, nat_le}

abbrev pub In : {X : Type 0} → X → List X → Type 0
In x [] = ⊥
In x (y ∷ ys) = (x ≡ y) ⊎ In x ys

abbrev pub some : {X : Type 0} → (X → Bool) → List X → Bool
some test [] = false
some test (x ∷ xs) = test x || some test xs

abbrev pub each_with : {X Y Z : Type 0} → (X → Y → Z) → List X → List Y → List Z
each_with f [] ys = []
each_with f (x ∷ xs) ys = map (f x) ys ++ each_with f xs ys

pub record Offer (C : Type 0) : Type 0 where
  pub level : ℕ
  pub load : ℕ
  pub entry : C

pub record Row (C : Type 0) : Type 0 where
  pub port : ℕ
  pub limit : ℕ
  pub offers : List (Offer C)

pub record Taken (C : Type 0) : Type 0 where
  pub row : Row C
  pub offer : Offer C

-- a beginning that gives one row more this offer
abbrev pub taken : {C : Type 0} → Row C → List (Taken C) → Offer C → List (Taken C)
taken row b offer = record { row = row; offer = offer } ∷ b

-- no rows have one beginning; each of them goes on with every offer of the next row
abbrev pub beginnings : {C : Type 0} → List (Row C) → List (List (Taken C))
beginnings [] = [] ∷ []
beginnings (row ∷ done) = each_with (taken row) (beginnings done) row.offers

abbrev pub choices : {C : Type 0} → List (Row C) → List (List (Taken C))
choices rows = beginnings (reverse rows)

abbrev pub load : {C : Type 0} → List (Taken C) → ℕ
load [] = 0
load (t ∷ b) = load b + t.offer.load

abbrev pub keeps : {C : Type 0} → List (Taken C) → Bool
keeps [] = true
keeps (t ∷ b) = keeps b && nat_le (load (t ∷ b)) t.row.limit

abbrev pub smallest : {C : Type 0} → List (Offer C) → ℕ
smallest [] = 0
smallest (o ∷ []) = o.load
smallest (o ∷ (p ∷ os)) = min o.load (smallest (p ∷ os))

abbrev pub fits : {C : Type 0} → ℕ → List (Row C) → Bool
fits sum [] = true
fits sum (row ∷ later) = nat_le (sum + smallest row.offers) row.limit && fits (sum + smallest row.offers) later

abbrev pub open_to : {C : Type 0} → List (Row C) → List (Taken C) → Bool
open_to later b = keeps b && fits (load b) later
