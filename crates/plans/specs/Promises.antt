-- What holds of fronts and plans, for every kind that keeps the laws.
--   Priced k rows               each entry is one of the kind: a sum of one
--   Rows k rows                 what a board's rows are: at most 48, each with an offer, each entry one of the kind
--   Measured p h s              the standing task has an offered level, and at each of them the measure of an admissible task
--   BoardsHaveRows k            at most 48 such tasks have such rows, periodic or sporadic
--   Ahead k p q                 q is dearer than p, and lighter
--   Falls k ps                  from each pair to those behind it costs rise and loads fall, strictly
--   Reached k done later p      p is the pair of an open beginning
--   Leads k done later p        so it is, and no other such pair beats it
--   FrontOf k done later ps     ps falls, and its members are just the pairs that lead
--   OneFront k                  the front is such a list, and the only one
--   admits row later n          the sum of loads n is within the row's limit, and leaves the later rows open
--   bound row later             the largest sum of loads that the row admits, where it admits any
--   extended k row later ps     the open pairs that the row's offers make of the pairs ps
--   FrontFromFront k            the front of one row more is the unbeaten part of the open extensions of the front alone
--   AChoice rows c              c is one of the choices
--   Best k rows c               c keeps every limit; a choice that does costs at least as much, and at equal cost has at least that load
--   PlanOf k rows f             the levels of the plan are a best choice, and its cost and load are that choice's
--   PlansBest k                 every plan that is given is such a plan
--   Ports rows                  each row has a port of its own, from 1 to 48
--   LevelsTold k                after a plan the byte of a row's port is the level that the plan gives the row, and that of any other port is 255
--   NoChoice rows               no choice keeps every limit
--   NoneFitsExactly k           with 48 bytes for the levels, 32 is answered exactly if no choice keeps every limit, whatever the length of the list
--   Matched one other           the same rows at other ports, where rows of one limit may have changed places
--   Renumbered k                best choices of matched rows have one cost and one load
use Rattle.std.specs.Prelude.{◌≡◌, ℕ, ◌-◌, ◌<◌, ◌≤◌, min, Bool, not, ◌&&◌, T, List, [], ◌∷◌, length, Some, Ok, Err, filter, Result, ◌≢◌, nat_le, slice_index}
use Rattle.board.specs.declared.faults.Fault.{Fault}
use Rattle.board.specs.declared.measures.Measure.{Measure}
use Rattle.board.specs.Faults.{numbered}
use Rattle.board.specs.Processors.{ProcessorFigures}
use Rattle.board.specs.Measures.{offer, Offered}
use Rattle.cost.specs.Kinds.{Meaning, most_entries, Sum, NoDearer}
use Rattle.plans.specs.declared.figures.Figures.{Figures}
use Rattle.plans.specs.Choices.{In, Offer, Row, Taken, each_with, beginnings, choices, load, keeps, smallest, fits, open_to}
use Rattle.plans.specs.Fronts.{Pair, cost, pair, step, beats, unbeaten, sorted, front}
use Rattle.plans.specs.Places.{chosen}
use Rattle.plans.specs.Plans.{planned, levels_after}
use Rattle.plans.specs.Boards.{Standing, joint_period, periodic_rows, sporadic_rows}

abbrev pub Priced : {C : Type 0} → Meaning C → List (Row C) → Type 0
Priced {C} k rows = (r : Row C) → In r rows → (o : Offer C) → In o r.offers → Sum k 1 o.entry

pub record Rows {C : Type 0} (k : Meaning C) (rows : List (Row C)) : Type 0 where
  pub few : length rows ≤ most_entries
  pub offered : (r : Row C) → In r rows → (o : Offer C) × In o r.offers
  pub priced : Priced k rows

pub record Measured (p : ProcessorFigures) (h : ℕ) (s : Standing) : Type 0 where
  pub offered : (level : ℕ) × (m : Measure) × (offer p s.task h level ≡ Some m)
  pub measures : (level : ℕ) (m : Measure) → offer p s.task h level ≡ Some m → Offered m

abbrev pub BoardsHaveRows : {C : Type 0} → Meaning C → Type 0
BoardsHaveRows k =
    (p : ProcessorFigures) (ss : List Standing) → length ss ≤ most_entries →
    ((capacity : ℕ) → ((s : Standing) → In s ss → Measured p (joint_period ss) s) → Rows k (periodic_rows k p capacity ss))
    × ((clock : ℕ) → ((s : Standing) → In s ss → Measured p 1 s) → Rows k (sporadic_rows k p clock ss))

pub record Ahead {C : Type 0} (k : Meaning C) (p q : Pair C) : Type 0 where
  pub cheaper : T (not (k.under q.cost p.cost))
  pub lighter : q.load < p.load

abbrev pub Falls : {C : Type 0} → Meaning C → List (Pair C) → Type 0
Falls k [] = Unit {0}
Falls {C} k (p ∷ ps) = ((q : Pair C) → In q ps → Ahead k p q) × Falls k ps

pub record Reached {C : Type 0} (k : Meaning C) (done later : List (Row C)) (p : Pair C) : Type 0 where
  pub beginning : List (Taken C)
  pub begins : In beginning (beginnings done)
  pub opens : T (open_to later beginning)
  pub is : p ≡ pair k beginning

pub record Leads {C : Type 0} (k : Meaning C) (done later : List (Row C)) (p : Pair C) : Type 0 where
  pub reached : Reached k done later p
  pub unbeaten : (q : Pair C) → Reached k done later q → T (beats k q p) → ⊥

pub record FrontOf {C : Type 0} (k : Meaning C) (done later : List (Row C)) (ps : List (Pair C)) : Type 0 where
  pub falls : Falls k ps
  pub each : (p : Pair C) → In p ps → Leads k done later p
  pub all : (p : Pair C) → Leads k done later p → In p ps

abbrev pub OneFront : {C : Type 0} → Meaning C → Type 0
OneFront {C} k =
    (done later : List (Row C)) → length done ≤ most_entries → Priced k done →
    FrontOf k done later (front k done later) × ((ps : List (Pair C)) → FrontOf k done later ps → ps ≡ front k done later)

abbrev pub admits : {C : Type 0} → Row C → List (Row C) → ℕ → Bool
admits row later n = nat_le n row.limit && fits n later

abbrev pub bound : {C : Type 0} → Row C → List (Row C) → ℕ
bound row [] = row.limit
bound row (next ∷ later) = min row.limit (bound next later - smallest next.offers)

abbrev pub extended : {C : Type 0} → Meaning C → Row C → List (Row C) → List (Pair C) → List (Pair C)
extended k row later ps = filter (λ p. admits row later p.load) (each_with (step k) ps row.offers)

abbrev pub FrontFromFront : {C : Type 0} → Meaning C → Type 0
FrontFromFront {C} k =
    (row : Row C) (done later : List (Row C)) → length (row ∷ done) ≤ most_entries → Priced k (row ∷ done) →
    front k (row ∷ done) later ≡ sorted k (unbeaten k (extended k row later (front k done (row ∷ later))))

abbrev pub AChoice : {C : Type 0} → List (Row C) → List (Taken C) → Type 0
AChoice rows c = ∥ In c (choices rows) ∥₁

pub record Best {C : Type 0} (k : Meaning C) (rows : List (Row C)) (c : List (Taken C)) : Type 0 where
  pub choice : AChoice rows c
  pub kept : T (keeps c)
  pub cheapest : (d : List (Taken C)) → AChoice rows d → T (keeps d) → NoDearer k (cost k c) (cost k d)
  pub lightest : (d : List (Taken C)) → AChoice rows d → T (keeps d) → cost k d ≡ cost k c → load c ≤ load d

pub record PlanOf {C : Type 0} (k : Meaning C) (rows : List (Row C)) (f : Figures C) : Type 0 where
  pub best : Best k rows (chosen k rows)
  pub costs : f.cost ≡ cost k (chosen k rows)
  pub loads : f.load ≡ load (chosen k rows)

abbrev pub PlansBest : {C : Type 0} → Meaning C → Type 0
PlansBest {C} k = (rows : List (Row C)) → Rows k rows → (room buffer : ℕ) (f : Figures C) → planned k room buffer rows ≡ Ok f → PlanOf k rows f

abbrev pub Apart : {C : Type 0} → List (Row C) → Type 0
Apart [] = Unit {0}
Apart {C} (r ∷ rows) = ((s : Row C) → In s rows → r.port ≢ s.port) × Apart rows

pub record Ports {C : Type 0} (rows : List (Row C)) : Type 0 where
  pub apart : Apart rows
  pub in_range : (r : Row C) → In r rows → (1 ≤ r.port) × (r.port ≤ 48)

-- what the buffer says of a port after a plan, whatever it held before
abbrev pub byte_of : {C : Type 0} → Meaning C → List (Row C) → Figures C → List ℕ → ℕ → ℕ
byte_of k rows f found port = slice_index (levels_after k rows (Ok f) found) (port - 1)

abbrev pub LevelsTold : {C : Type 0} → Meaning C → Type 0
LevelsTold {C} k =
    (rows : List (Row C)) → Rows k rows → Ports rows → (room buffer : ℕ) (f : Figures C) → planned k room buffer rows ≡ Ok f → (found : List ℕ) →
    ((t : Taken C) → In t (chosen k rows) → byte_of k rows f found t.row.port ≡ t.offer.level)
    × ((port : ℕ) → 1 ≤ port → port ≤ 48 → ((r : Row C) → In r rows → r.port ≢ port) → byte_of k rows f found port ≡ 255)

abbrev pub NoChoice : {C : Type 0} → List (Row C) → Type 0
NoChoice {C} rows = (c : List (Taken C)) → AChoice rows c → T (keeps c) → ⊥

-- the number of a refusal, 0 of a plan
abbrev pub number_of : {C : Type 0} → Result (Figures C) Fault → ℕ
number_of (Ok f) = 0
number_of (Err fault) = (numbered fault).number

abbrev pub NoneFitsExactly : {C : Type 0} → Meaning C → Type 0
NoneFitsExactly {C} k =
    (rows : List (Row C)) → Rows k rows → (room buffer : ℕ) → 48 ≤ buffer →
    (number_of (planned k room buffer rows) ≡ 32 → NoChoice rows) × (NoChoice rows → number_of (planned k room buffer rows) ≡ 32)

-- rows that differ at most in their ports
pub record Alike {C : Type 0} (x y : Row C) : Type 0 where
  pub limit : x.limit ≡ y.limit
  pub offers : x.offers ≡ y.offers

pub data Matched {C : Type 0} : List (Row C) → List (Row C) → Type 0 where
  no_rows : Matched [] []
  one_more : {x y : Row C} {a b : List (Row C)} → Alike x y → Matched a b → Matched (x ∷ a) (y ∷ b)
  swapped : {x y : Row C} {a : List (Row C)} → x.limit ≡ y.limit → Matched (x ∷ y ∷ a) (y ∷ x ∷ a)
  in_turn : {a b c : List (Row C)} → Matched a b → Matched b c → Matched a c

abbrev pub Renumbered : {C : Type 0} → Meaning C → Type 0
Renumbered {C} k =
    (one other : List (Row C)) → Rows k one → Matched one other → (c d : List (Taken C)) → Best k one c → Best k other d →
    (cost k c ≡ cost k d) × (load c ≡ load d)
