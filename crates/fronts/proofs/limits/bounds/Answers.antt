use Rattle.std.proofs.Common.{◌≡◌, ℕ, ◌+◌, ◌-◌, ◌<◌, ◌∷◌, [], List, length, get_or, take, drop, set, Some, sym, ap, ◌∙◌, subst, inl, inr, arith, length-set, length-append, get_or-set_other, get_or-set_same}
use Rattle.std.proofs.lemmas.List.{get_or_default}
use Rattle.std.proofs.lemmas.Bool.{cases_eq}
use Rattle.cost.specs.Kinds.{Meaning}
use Rattle.plans.specs.Choices.{smallest}
use Rattle.fronts.specs.declared.row.Row.{Row}
use Rattle.fronts.specs.Rows.{offers_from, row_of, rows_of, bound_at, lesser}
use Rattle.fronts.proofs.Bounding.{rows_from, left_by, bound_left}
use Rattle.fronts.proofs.Lasts.{last_taken}
use Rattle.fronts.specs.Views.{listed_rows}
use Rattle.fronts.proofs.Apart.{counted}
use Rattle.fronts.proofs.limits.bounds.Goals as goal

same_bound : {C : Type 0} (k : Meaning C) (rs : List Row) (i j : ℕ) → i < length rs → (r row : Row) → r ≡ get_or rs i r → j ≡ i → row ≡ get_or rs j row → bound_at k rs i r ≡ bound_at k rs j row
same_bound k rs i j h r row is e at =
    let one : row ≡ r = subst (λ (n : ℕ). row ≡ get_or rs n row) e at ∙ get_or_default rs i row r h ∙ sym is in
    ap (bound_at k rs i) (sym one) ∙ ap (λ n. bound_at k rs n row) (sym e)

pub loop-i-preserved : goal.loop-i-preserved
loop-i-preserved g c =
    let k = g.K.Kind.meaning in
    let rs = listed_rows c.args.rows.now in
    let r = c.in-Some.row.now in
    let steps = c.in-Some.ensures.steps in
    let old = c.loop-i.i-iterator.iter.iter.rest.now in
    let rest = c.next.new.self.iter.iter.rest.now in
    let inv = c.loop-i.invariant in
    let i = length rest in
    let p = last_taken rest rs r (sym steps.1.0 ∙ inv.1 ∙ ap (λ xs. take (length xs) rs) steps.1.0) in
    let is : r ≡ get_or rs i r = p.2 r in
    let on : length old ≡ i + 1 = ap length steps.1.0 ∙ length-append rest (r ∷ []) in
    let at : c.in-Some.i ≡ i = omega (arith, steps.1.1, inv.2) in
    let before : c.loop-i.left ≡ left_by (rows_of k (drop (i + 1) rs)) = subst (λ n. c.loop-i.left ≡ left_by (rows_of k (drop n rs))) on inv.3 in
    let b = c.admitted-bound.result in
    let here : b ≡ bound_at k rs i r = c.admitted-bound.ensures ∙ ap (λ l. lesser l r.limit) before ∙ sym (bound_left (row_of k r) (rows_of k (drop (i + 1) rs))) in
    let within : i < length c.loop-i.bounds = omega (arith, inv.0, p.1, counted c.args.rows.now) in
    let less : c.saturating_sub.result ≡ bound_at k rs i r - smallest (offers_from k r.offers 0 8) = let value = c.smallest.ensures.value in let sub = c.saturating_sub.ensures in cc in
    let written = ap (λ n. set c.loop-i.bounds n b) at in (
      ap length written ∙ length-set c.loop-i.bounds i b ∙ inv.0,
      p.0,
      steps.0 ∙ inv.2,
      ap Some less ∙ sym (ap left_by (rows_from k rs i p.1 r is)),
      λ j row low high same. ap (λ xs. get_or xs j 0) written ∙ elim (cases_eq j i) [
        | inl e ↦ ap (λ n. get_or (set c.loop-i.bounds i b) n 0) e ∙ get_or-set_same c.loop-i.bounds i b 0 within ∙ here ∙ same_bound k rs i j p.1 r row is e same
        | inr ne ↦ get_or-set_other c.loop-i.bounds i j b 0 ne ∙ inv.4 j row (omega (arith, on)) high same
      ],
    )
