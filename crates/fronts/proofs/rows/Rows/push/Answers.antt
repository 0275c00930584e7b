use Rattle.std.proofs.Common.{◌≡◌, ◌+◌, Bool, true, false, cond, leb, ◌++◌, ◌∷◌, [], List, length, sym, ap, ◌∙◌}
use Rattle.fronts.specs.declared.row.Row.{Row}
use Rattle.fronts.specs.Rows.{row_fits, rows_fit}
use Rattle.fronts.specs.Views.{listed_rows}
use Rattle.fronts.proofs.Apart.{fit_push}
use Rattle.fronts.proofs.rows.Rows.push.Goals as goal

fit_joined : (b : Bool) (rs : List Row) (r : Row) → rows_fit rs ≡ true → row_fits rs r ≡ true → rows_fit (cond b (rs ++ r ∷ []) rs) ≡ true
fit_joined true rs r all new = fit_push rs r all new
fit_joined false rs r all new = all

pub invariant_of-self : goal.invariant_of-self
invariant_of-self c =
    let rs = listed_rows c.args.self.now in
    let r = c.args.row.now in
    let ok : row_fits rs r ≡ true = sym (c.if-row_fits.ensures ∙ ap (λ xs. row_fits xs r) c.rows-2.ensures) in
    record { fit = ap rows_fit c.push.ensures.items ∙ fit_joined (leb (length rs + 1) 48) rs r c.args.self.now.fit ok }
