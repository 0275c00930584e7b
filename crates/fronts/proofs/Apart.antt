-- Rows with ports of their own.
use Rattle.std.proofs.Common.{◌≡◌, ℕ, ◌≤◌, Bool, true, false, not, ◌&&◌, eqb, List, [], ◌∷◌, ◌++◌, length, sym, refl, ap, ◌∙◌, arith}
use Rattle.std.proofs.lemmas.Bool.{and_from, and_parts, eqb-true, eq-eqb}
use Rattle.shortlist.proofs.Counting.{listed_few}
use Rattle.fronts.specs.declared.row.Row.{Row}
use Rattle.fronts.specs.declared.rows.Rows.{Rows}
use Rattle.board.specs.Processors.{between}
use Rattle.fronts.specs.Rows.{nothing_offered, port_free, row_fits, rows_fit}
use Rattle.fronts.specs.Views.{listed_rows}

other_way : (m n : ℕ) → not (eqb m n) ≡ true → not (eqb n m) ≡ true
other_way m n h = by (eqb n m) refl
  where
    by : (b : Bool) → eqb n m ≡ b → not (eqb n m) ≡ true
    by false e = ap not e
    by true e = absurd (no_both (sym (ap not (eq-eqb m n (sym (eqb-true n m e)))) ∙ h))
      where
        no_both : false ≡ true → ⊥
        no_both z = let w : ◌≡◌ {A = ℕ} 0 1 = cc in omega arith

free_push : (port : ℕ) (rs : List Row) (r : Row) → port_free port rs ≡ true → not (eqb r.port port) ≡ true → port_free port (rs ++ r ∷ []) ≡ true
free_push port [] r all new = and_from _ _ new refl
free_push port (s ∷ rs) r all new = let p = and_parts (not (eqb s.port port)) (port_free port rs) all in and_from _ _ p.0 (free_push port rs r p.1 new)

pub fit_push : (rs : List Row) (r : Row) → rows_fit rs ≡ true → row_fits rs r ≡ true → rows_fit (rs ++ r ∷ []) ≡ true
fit_push [] r all new = and_from _ _ new refl
fit_push (s ∷ rs) r all new =
    let old = and_parts (row_fits rs s) (rows_fit rs) all in
    let here = and_parts (between 1 48 s.port) (not (nothing_offered s.offers) && port_free s.port rs) old.0 in
    let more = and_parts (not (nothing_offered s.offers)) (port_free s.port rs) here.1 in
    let range = and_parts (between 1 48 r.port) (not (nothing_offered r.offers) && port_free r.port (s ∷ rs)) new in
    let offers = and_parts (not (nothing_offered r.offers)) (port_free r.port (s ∷ rs)) range.1 in
    let apart = and_parts (not (eqb s.port r.port)) (port_free r.port rs) offers.1 in
    and_from _ _ (and_from _ _ here.0 (and_from _ _ more.0 (free_push s.port rs r more.1 (other_way s.port r.port apart.0))))
    (fit_push rs r old.1 (and_from _ _ range.0 (and_from _ _ offers.0 apart.1)))

-- at most 48 rows are listed
pub counted : (rs : Rows) → length (listed_rows rs) ≤ 48
counted rs = listed_few rs.rows
