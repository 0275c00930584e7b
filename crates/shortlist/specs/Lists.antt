-- What a short list holds.
--   listed l          the items, from the first on
--   all_places l      what stands in all places of its array: the items, and behind them what is no item
--   joined n xs ys    xs and ys behind it, if both together are at most n; else xs alone
--   inserted n xs at x  xs with x at the place at, or behind them if they are fewer, if both together are at most n; else xs alone
--   within n xs       xs, if it has at most n items
use Rattle.std.specs.Prelude.{ℕ, ◌+◌, cond, List, ◌∷◌, ◌++◌, length, take, drop, nat_le, Option, Some, None}
use Rattle.shortlist.specs.declared.lists.ShortList.{ShortList}

abbrev pub listed : {T : Type 0} {n : ℕ} → ShortList T n → List T
listed l = take l.count l.places

abbrev pub all_places : {T : Type 0} {n : ℕ} → ShortList T n → List T
all_places l = l.places

abbrev pub joined : {T : Type 0} → ℕ → List T → List T → List T
joined n xs ys = cond (nat_le (length xs + length ys) n) (xs ++ ys) xs

abbrev pub inserted : {T : Type 0} → ℕ → List T → ℕ → T → List T
inserted n xs at x = cond (nat_le (length xs + 1) n) (take at xs ++ x ∷ drop at xs) xs

abbrev pub within : {T : Type 0} → ℕ → List T → Option (List T)
within n xs = cond (nat_le (length xs) n) (Some xs) None
