-- The rows of a board, as the code holds them, and the rows that the definitions of a plan speak of.
--   measure_at os level     the measure of a level, if it is offered
--   offers_from k os l n    the offers of n levels from level l on: each offered level with its load and the price of its measure
--   row_of k r              the row at the prices of the kind k
--   rows_of k rs            the rows at the prices of the kind k
--   nothing_offered os      no level is offered
--   port_free port rs       none of the rows has the port
--   row_fits rs r           r may stand behind the rows: a level is offered, and its port is a free one from 1 to 48
--   rows_fit rs             each row has an offered level and a port of its own from 1 to 48
use Rattle.std.specs.Prelude.{ℕ, ◌+◌, min, Bool, true, not, ◌&&◌, List, [], ◌∷◌, map, drop, is_some, Some, None, Option, ◌==◌, slice_index_or}
use Rattle.std.specs.List.{range_with_len, flat_map, list_all}
use Rattle.std.specs.Option.{option_map}
use Rattle.board.specs.declared.measures.Measure.{Measure}
use Rattle.board.specs.declared.offers.Offer.{Offer}
use Rattle.board.specs.Processors.{between}
use Rattle.cost.specs.Kinds.{Meaning}
use Rattle.plans.specs.Choices
use Rattle.plans.specs.Boards.{priced}
use Rattle.plans.specs.Promises.{bound}
use Rattle.fronts.specs.declared.row.Row.{Row}

abbrev pub measure_at : List (Option Offer) → ℕ → Option Measure
measure_at os level = option_map (λ o. o.measure) (slice_index_or os level None)

abbrev pub offers_from : {C : Type 0} → Meaning C → List (Option Offer) → ℕ → ℕ → List (Choices.Offer C)
offers_from k os level n = flat_map (λ l. priced k l (measure_at os l)) (range_with_len level n)

abbrev pub row_of : {C : Type 0} → Meaning C → Row → Choices.Row C
row_of k r = record { port = r.port; limit = r.limit; offers = offers_from k r.offers 0 8 }

abbrev pub rows_of : {C : Type 0} → Meaning C → List Row → List (Choices.Row C)
rows_of k rs = map (row_of k) rs

abbrev pub nothing_offered : List (Option Offer) → Bool
nothing_offered os = list_all (λ l. not (is_some (slice_index_or os l None))) (range_with_len 0 8)

abbrev pub port_free : ℕ → List Row → Bool
port_free port rs = list_all (λ r. not (r.port == port)) rs

abbrev pub row_fits : List Row → Row → Bool
row_fits rs r = between 1 48 r.port && (not (nothing_offered r.offers) && port_free r.port rs)

abbrev pub rows_fit : List Row → Bool
rows_fit [] = true
rows_fit (r ∷ rs) = row_fits rs r && rows_fit rs

-- a number, or the least so far if that is smaller
abbrev pub lesser : Option ℕ → ℕ → ℕ
lesser None n = n
lesser (Some m) n = min n m

-- the largest sum of loads that the row at this place admits
abbrev pub bound_at : {C : Type 0} → Meaning C → List Row → ℕ → Row → ℕ
bound_at k rs i r = bound (row_of k r) (rows_of k (drop (i + 1) rs))
