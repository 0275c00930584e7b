-- The rows of a board at the prices of a kind keep what is asked of rows.
use Rattle.std.proofs.Common.{◌≡◌, ℕ, ◌+◌, ◌<◌, ◌≤◌, Bool, true, false, not, ◌&&◌, leb, List, [], ◌∷◌, ◌++◌, reverse, length, get_or, take, is_some, Some, None, Option, sym, refl, ap, ◌∙◌, subst, inl, inr, arith}
use Rattle.std.specs.List.{range_with_len, list_all}
use Rattle.std.specs.Option.{option_map}
use Rattle.std.proofs.lemmas.List.{length-map, take_more, map-append, reverse-append}
use Rattle.std.proofs.lemmas.Option.{slice_get_read}
use Rattle.std.proofs.lemmas.Bool.{and_parts, leb-true}
use Rattle.board.specs.declared.offers.Offer.{Offer}
use Rattle.board.specs.Processors.{between}
use Rattle.board.proofs.Bounds.{load_bound}
use Rattle.cost.specs.Kinds.{Meaning, Sum, entry}
use Rattle.plans.specs.Choices
use Rattle.plans.specs.Choices.{In, load}
use Rattle.plans.specs.Boards.{priced}
use Rattle.plans.specs.Promises.{Priced, Rows}
use Rattle.plans.proofs.Members.{nth_in, map_out, only}
use Rattle.plans.proofs.Standings.{joined_in, joined_out}
use Rattle.fronts.specs.declared.row.Row.{Row}
use Rattle.fronts.specs.Rows.{measure_at, offers_from, row_of, rows_of, nothing_offered, row_fits, rows_fit, port_free}

fit_at : (rs : List Row) → rows_fit rs ≡ true → (r : Row) → In r rs → (between 1 48 r.port ≡ true) × (not (nothing_offered r.offers) ≡ true)
fit_at [] fit r i = absurd i
fit_at (s ∷ rs) fit r (inl e) =
    let all = and_parts (row_fits rs s) (rows_fit rs) fit in
    let more = and_parts (between 1 48 s.port) (not (nothing_offered s.offers) && port_free s.port rs) all.0 in
    subst (λ (x : Row). (between 1 48 x.port ≡ true) × (not (nothing_offered x.offers) ≡ true)) (sym e) (more.0, (and_parts (not (nothing_offered s.offers)) (port_free s.port rs) more.1).0)
fit_at (s ∷ rs) fit r (inr i) = fit_at rs (and_parts (row_fits rs s) (rows_fit rs) fit).1 r i

pub port_within : (rs : List Row) → rows_fit rs ≡ true → (i : ℕ) → i < length rs → (r : Row) → r ≡ get_or rs i r → (1 ≤ r.port) × (r.port ≤ 48)
port_within rs fit i h r is =
    let range = and_parts (leb 1 r.port) (leb r.port 48) (fit_at rs fit r (nth_in rs i r (slice_get_read rs (length rs) i r refl h is))).0 in
    (leb-true 1 r.port range.0, leb-true r.port 48 range.1)

-- a measure that is offered has its price and its load
record Told {C : Type 0} (k : Meaning C) (o : Choices.Offer C) : Type 0 where
  sums : Sum k 1 o.entry
  light : o.load ≤ 60000000

module _ {C : Type 0} (k : Meaning C) where
  told_of : (level : ℕ) (x : Option Offer) (o : Choices.Offer C) → In o (priced k level (option_map (λ y. y.measure) x)) → Told k o
  told_of level None o i = absurd i
  told_of level (Some y) o i = subst (λ (z : Choices.Offer C). Told k z) (sym (only i)) (record { sums = entry y.offered; light = load_bound y.measure y.offered })

  told : (os : List (Option Offer)) (o : Choices.Offer C) → In o (offers_from k os 0 8) → Told k o
  told os o i = let j = joined_out (λ l. priced k l (measure_at os l)) (range_with_len 0 8) o i in told_of j.0 (get_or os j.0 None) o j.1

  pub rows_priced : (rs : List Row) → Priced k (rows_of k rs)
  rows_priced rs r i o j = let m = map_out (row_of k) rs r i in (told m.0.offers o (subst (λ (x : Choices.Row C). In o x.offers) m.2 j)).sums

  -- every load is at most 60,000,000 µs
  pub rows_light : (rs : List Row) (r : Choices.Row C) → In r (rows_of k rs) → (o : Choices.Offer C) → In o r.offers → o.load ≤ 60000000
  rows_light rs r i o j = let m = map_out (row_of k) rs r i in (told m.0.offers o (subst (λ (x : Choices.Row C). In o x.offers) m.2 j)).light

  some_of : (level : ℕ) (x : Option Offer) → not (is_some x) ≡ false → (o : Choices.Offer C) × In o (priced k level (option_map (λ y. y.measure) x))
  some_of level None e = absurd (let z : ◌≡◌ {A = ℕ} 0 1 = cc in omega arith)
  some_of level (Some y) e = (record { level = level; load = y.measure.load; entry = k.worth y.measure }, inl refl)

  -- where not all levels fail a test, one passes
  some_level : (test : ℕ → Bool) (ls : List ℕ) → not (list_all test ls) ≡ true → (l : ℕ) × In l ls × (test l ≡ false)
  some_level test [] e = absurd (let z : ◌≡◌ {A = ℕ} 0 1 = cc in omega arith)
  some_level test (l ∷ ls) e = at (test l) refl (some_level test ls)
    where
      at : (b : Bool) → test l ≡ b → (not (list_all test ls) ≡ true → (m : ℕ) × In m ls × (test m ≡ false)) → (m : ℕ) × In m (l ∷ ls) × (test m ≡ false)
      at false f rest = (l, inl refl, f)
      at true f rest = let r = rest (ap (λ b. not (b && list_all test ls)) (sym f) ∙ e) in (r.0, inr r.1, r.2)

  offered_some : (os : List (Option Offer)) → not (nothing_offered os) ≡ true → (o : Choices.Offer C) × In o (offers_from k os 0 8)
  offered_some os e =
      let l = some_level (λ n. not (is_some (get_or os n None))) (range_with_len 0 8) e in
      let o = some_of l.0 (get_or os l.0 None) l.2 in
      (o.0, joined_in (λ n. priced k n (measure_at os n)) (range_with_len 0 8) l.0 o.0 l.1 o.1)

  pub rows_stand : (rs : List Row) → length rs ≤ 48 → rows_fit rs ≡ true → Rows k (rows_of k rs)
  rows_stand rs few fit = record {
    few = omega (arith, length-map rs (row_of k));
    offered = λ r i. let m = map_out (row_of k) rs r i in subst (λ (x : Choices.Row C). (o : Choices.Offer C) × In o x.offers) (sym m.2) (offered_some m.0.offers (fit_at rs fit m.0 m.1).1);
    priced = rows_priced rs;
  }

  -- one row more is done
  pub done_more : (rs : List Row) (i : ℕ) → i < length rs → (r : Row) → r ≡ get_or rs i r → reverse (rows_of k (take (i + 1) rs)) ≡ row_of k r ∷ reverse (rows_of k (take i rs))
  done_more rs i h r is =
      ap (λ (xs : List Row). reverse (rows_of k xs)) (take_more rs i r h ∙ ap (λ (x : Row). take i rs ++ x ∷ []) (sym is))
      ∙ ap reverse (map-append (row_of k) (take i rs) (r ∷ []))
      ∙ reverse-append (rows_of k (take i rs)) (row_of k r ∷ [])
