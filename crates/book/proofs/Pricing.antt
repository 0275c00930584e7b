-- Rows at the prices of a kind.
use Rattle.std.proofs.Common.{◌≡◌, ℕ, zero, suc, ◌+◌, ◌≤◌, List, [], ◌∷◌, ◌++◌, map, length, get_or, None, refl, ap, ◌∙◌, arith}
use Rattle.std.specs.List.{range_with_len, flat_map}
use Rattle.board.specs.Processors.{ProcessorFigures}
use Rattle.board.specs.Tasks.{FiguresOfTask}
use Rattle.board.specs.Measures.{offer, offer_at}
use Rattle.std.proofs.lemmas.Option.{slice_get_past}
use Rattle.cost.specs.Kinds.{Meaning}
use Rattle.plans.specs.Choices
use Rattle.plans.specs.Boards.{Standing, priced, offers, row}
use Rattle.fronts.specs.declared.row.Row.{Row}
use Rattle.fronts.specs.Rows.{measure_at, row_of, rows_of}
use Rattle.book.specs.Rows.{PlainRow, measures_of, plain_row, standing_row}
use Rattle.book.proofs.Adding.{measure_read}

joined_idle : {Y : Type 0} (f : ℕ → List Y) (n a : ℕ) → ((i : ℕ) → a ≤ i → f i ≡ []) → flat_map f (range_with_len a n) ≡ []
joined_idle f zero a idle = refl
joined_idle f (suc n) a idle = ap (λ l. l ++ flat_map f (range_with_len (a + 1) n)) (idle a (omega arith)) ∙ joined_idle f n (a + 1) (λ i h. idle i (omega arith))

joined_short : {Y : Type 0} (f : ℕ → List Y) (m n a : ℕ) → m ≤ n → ((i : ℕ) → a + m ≤ i → f i ≡ []) → flat_map f (range_with_len a n) ≡ flat_map f (range_with_len a m)
joined_short f zero n a h idle = joined_idle f n a (λ i g. idle i (omega arith))
joined_short f (suc m) zero a h idle = absurd (omega arith)
joined_short f (suc m) (suc n) a h idle = ap (λ l. f a ++ l) (joined_short f m n (a + 1) (omega arith) (λ i g. idle i (omega arith)))

joined_same : {X Y : Type 0} (f g : X → List Y) → ((x : X) → f x ≡ g x) → (xs : List X) → flat_map f xs ≡ flat_map g xs
joined_same f g h [] = refl
joined_same f g h (x ∷ xs) = ap (λ l. l ++ flat_map f xs) (h x) ∙ ap (λ l. g x ++ l) (joined_same f g h xs)

module _ {C : Type 0} (k : Meaning C) where
  -- a row at the prices of the kind
  abbrev priced_row : PlainRow → Choices.Row C
  priced_row r = record { port = r.port; limit = r.limit; offers = flat_map (λ level. priced k level (get_or r.measures level None)) (range_with_len 0 8) }

  row_priced : (r : Row) → row_of k r ≡ priced_row (plain_row r)
  row_priced r =
      ap (λ (os : List (Choices.Offer C)). record { port = r.port; limit = r.limit; offers = os })
      (joined_same (λ level. priced k level (measure_at r.offers level)) (λ level. priced k level (get_or (measures_of r.offers) level None)) (λ level. ap (priced k level) (measure_read r.offers level)) (range_with_len 0 8))

  module _ (p : ProcessorFigures) (few : length p.levels ≤ 8) (h : ℕ) where
    -- no level is offered past the last
    all_levels : (t : FiguresOfTask) → flat_map (λ level. priced k level (offer p t h level)) (range_with_len 0 8) ≡ offers k p t h
    all_levels t = joined_short (λ level. priced k level (offer p t h level)) (length p.levels) 8 0 few (λ i g. ap (λ o. priced k i (offer_at p t h o)) (slice_get_past p.levels i (omega arith)))

    standing_priced : (limit : ℕ) (s : Standing) → priced_row (standing_row p h limit s) ≡ row k p h limit s
    standing_priced limit s = ap (λ (os : List (Choices.Offer C)). record { port = s.port; limit = limit; offers = os }) (all_levels s.task)

    standings_priced : (limit : Standing → ℕ) (ss : List Standing) → map priced_row (map (λ s. standing_row p h (limit s) s) ss) ≡ map (λ s. row k p h (limit s) s) ss
    standings_priced limit [] = refl
    standings_priced limit (s ∷ ss) = ap (λ (x : Choices.Row C). x ∷ map priced_row (map (λ s. standing_row p h (limit s) s) ss)) (standing_priced (limit s) s) ∙ ap (λ (l : List (Choices.Row C)). row k p h (limit s) s ∷ l) (standings_priced limit ss)

    rows_priced : (rs : List Row) → rows_of k rs ≡ map priced_row (map plain_row rs)
    rows_priced [] = refl
    rows_priced (r ∷ rs) = ap (λ (x : Choices.Row C). x ∷ rows_of k rs) (row_priced r) ∙ ap (λ (l : List (Choices.Row C)). priced_row (plain_row r) ∷ l) (rows_priced rs)

    pub rows_are : (limit : Standing → ℕ) (ss : List Standing) (rs : List Row) → map plain_row rs ≡ map (λ s. standing_row p h (limit s) s) ss → rows_of k rs ≡ map (λ s. row k p h (limit s) s) ss
    rows_are limit ss rs e = rows_priced rs ∙ ap (map priced_row) e ∙ standings_priced limit ss
