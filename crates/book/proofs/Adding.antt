-- One row more: it is taken, and the rows are those of one standing task more.
use Rattle.std.proofs.Common.{◌≡◌, ℕ, zero, suc, ◌+◌, ◌<◌, ◌≤◌, Bool, true, false, cond, not, ◌&&◌, eqb, ltb, List, [], ◌∷◌, ◌++◌, map, length, get_or, is_some, Some, None, Option, sym, refl, ap, ◌∙◌, inl, inr, arith}
use Rattle.std.specs.List.{range_with_len, list_all}
use Rattle.std.specs.Option.{option_map}
use Rattle.std.proofs.lemmas.List.{map-append, length-map}
use Rattle.std.proofs.lemmas.Bool.{and_from, and_parts, le-leb, leb-true, lt-ltb, ne_eqb, cases_lt}
use Rattle.board.specs.declared.measures.Measure.{Measure}
use Rattle.board.specs.declared.offers.Offer.{Offer}
use Rattle.board.specs.Processors.{ProcessorFigures, between, levels_fit, standby_fits, processor_fits}
use Rattle.board.specs.Measures.{offer, offer_at}
use Rattle.std.proofs.lemmas.Option.{slice_get_past}
use Rattle.plans.specs.Boards.{Standing}
use Rattle.plans.specs.Choices.{In}
use Rattle.plans.specs.Promises.{Measured}
use Rattle.plans.proofs.Members.{none-some}
use Rattle.fronts.specs.declared.row.Row.{Row}
use Rattle.fronts.specs.Rows.{measure_at, nothing_offered, port_free, row_fits}
use Rattle.book.specs.Rows.{PlainRow, measures_of, plain_row, standing_row}

pass_map : {X Y : Type 0} (f : X → Y) (test : Y → Bool) (xs : List X) → list_all test (map f xs) ≡ list_all (λ x. test (f x)) xs
pass_map f test [] = refl
pass_map f test (x ∷ xs) = ap (λ b. test (f x) && b) (pass_map f test xs)

pass_each : {X : Type 0} (test : X → Bool) (xs : List X) → ((x : X) → In x xs → test x ≡ true) → list_all test xs ≡ true
pass_each test [] h = refl
pass_each test (x ∷ xs) h = and_from _ _ (h x (inl refl)) (pass_each test xs (λ y i. h y (inr i)))

-- one that fails
pass_not : (f : ℕ → Option Measure) (n a i : ℕ) (m : Measure) → a ≤ i → i < a + n → f i ≡ Some m → list_all (λ (o : Option Measure). not (is_some o)) (map f (range_with_len a n)) ≡ false
pass_not f zero a i m low high e = absurd (omega arith)
pass_not f (suc n) a i m low high e = elim (cases_lt a i) [
  | inl h ↦ ap (λ b. not (is_some (f a)) && b) (pass_not f n (a + 1) i m (omega arith) (omega arith) e) ∙ never (not (is_some (f a)))
  | inr h ↦
      let here : i ≡ a = omega arith in
      ap (λ (o : Option Measure). not (is_some o) && list_all (λ (o : Option Measure). not (is_some o)) (map f (range_with_len (a + 1) n))) (ap f (sym here) ∙ e)
]
  where
    never : (b : Bool) → (b && false) ≡ false
    never true = refl
    never false = refl

pass_same : {X : Type 0} (f g : X → Bool) → ((x : X) → f x ≡ g x) → (xs : List X) → list_all f xs ≡ list_all g xs
pass_same f g h [] = refl
pass_same f g h (x ∷ xs) = ap (λ b. b && list_all f xs) (h x) ∙ ap (λ b. g x && b) (pass_same f g h xs)

-- the measure of a level stands at its number
pub measure_read : (os : List (Option Offer)) (level : ℕ) → measure_at os level ≡ get_or (measures_of os) level None
measure_read [] level = refl
measure_read (o ∷ os) zero = refl
measure_read (o ∷ os) (suc level) = measure_read os level

some_measured : (o : Option Offer) → is_some o ≡ is_some (option_map (λ (x : Offer). x.measure) o)
some_measured None = refl
some_measured (Some o) = refl

some_measure : (f : ℕ → Option Measure) (os : List (Option Offer)) → measures_of os ≡ map f (range_with_len 0 8) → nothing_offered os ≡ list_all (λ (o : Option Measure). not (is_some o)) (map f (range_with_len 0 8))
some_measure f os e =
    pass_same (λ l. not (is_some (get_or os l None))) (λ l. not (is_some (get_or (measures_of os) l None))) (λ l. ap not (some_measured (get_or os l None) ∙ ap is_some (measure_read os l))) (range_with_len 0 8)
    ∙ ap (λ (ms : List (Option Measure)). list_all (λ l. not (is_some (get_or ms l None))) (range_with_len 0 8)) e

-- a level that is offered is one of eight
offered_early : (p : ProcessorFigures) (h : ℕ) (s : Standing) (level : ℕ) (m : Measure) → length p.levels ≤ 8 → offer p s.task h level ≡ Some m → level < 8
offered_early p h s level m few e = elim (cases_lt level 8) [
  | inl lt ↦ lt
  | inr le ↦ absurd (none-some (ap (offer_at p s.task h) (slice_get_past p.levels level (omega arith))) e)
]

pub few_levels : (p : ProcessorFigures) → processor_fits p ≡ true → length p.levels ≤ 8
few_levels p fits =
    let levels = (and_parts (levels_fit p.levels) (standby_fits p.standby) fits).0 in
    leb-true (length p.levels) 8 (and_parts _ _ (and_parts (between 1 8 (length p.levels)) _ levels).0).1

module _ (p : ProcessorFigures) (h : ℕ) (limit : Standing → ℕ) (few_in : length p.levels ≤ 8) where
  abbrev pub standing_rows : List Standing → List PlainRow
  standing_rows ss = map (λ s. standing_row p h (limit s) s) ss

  module _ (rs : List Row) (ss : List Standing) (are : map plain_row rs ≡ standing_rows ss) (row : Row) (s : Standing) (is : plain_row row ≡ standing_row p h (limit s) s) where
    few_rows : length rs ≡ length ss
    few_rows = sym (length-map rs plain_row) ∙ ap length are ∙ length-map ss (λ s. standing_row p h (limit s) s)

    same_port : row.port ≡ s.port
    same_port = ap (λ (r : PlainRow). r.port) is

    some_offered : Measured p h s → nothing_offered row.offers ≡ false
    some_offered measured =
        let n = measured.offered.0 in
        let m = measured.offered.1 in
        let e = measured.offered.2 in
        some_measure (offer p s.task h) row.offers (ap (λ (r : PlainRow). r.measures) is)
        ∙ pass_not (offer p s.task h) 8 0 n m (omega arith) (omega (arith, offered_early p h s n m few_in e)) e

    free : ((t : Standing) → In t ss → t.port ≡ s.port → ⊥) → port_free row.port rs ≡ true
    free apart =
        sym (pass_map plain_row (λ (r : PlainRow). not (eqb r.port row.port)) rs) ∙ ap (list_all (λ (r : PlainRow). not (eqb r.port row.port))) are
        ∙ pass_map (λ s. standing_row p h (limit s) s) (λ (r : PlainRow). not (eqb r.port row.port)) ss
        ∙ pass_each (λ (t : Standing). not (eqb t.port row.port)) ss (λ t i. ap not (ne_eqb t.port row.port (λ e. apart t i (e ∙ same_port))))

    module _ (room : length ss < 48) (low : 1 ≤ s.port) (high : s.port ≤ 48) (apart : (t : Standing) → In t ss → t.port ≡ s.port → ⊥) (measured : Measured p h s) where
      taken : (ltb (length rs) 48 && row_fits rs row) ≡ true
      taken = and_from _ _ (lt-ltb (length rs) 48 (omega (arith, few_rows))) (and_from _ _ (and_from _ _ (le-leb 1 row.port (omega (arith, same_port))) (le-leb row.port 48 (omega (arith, same_port)))) (and_from _ _ (ap not (some_offered measured)) (free apart)))

      pub row_added : (b : Bool) (after : List Row) → b ≡ (ltb (length rs) 48 && row_fits rs row) → after ≡ cond b (rs ++ (row ∷ [])) rs → map plain_row after ≡ standing_rows (ss ++ (s ∷ []))
      row_added b after e f =
          ap (map plain_row) (f ∙ ap (λ x. cond x (rs ++ (row ∷ [])) rs) (e ∙ taken)) ∙ map-append plain_row rs (row ∷ [])
          ∙ ap (λ xs. xs ++ (plain_row row ∷ [])) are ∙ ap (λ x. standing_rows ss ++ (x ∷ [])) is ∙ sym (map-append (λ s. standing_row p h (limit s) s) ss (s ∷ []))
