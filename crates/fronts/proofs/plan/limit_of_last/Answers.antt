use Rattle.std.proofs.Common.{◌≡◌, suc, ◌-◌, List, [], ◌∷◌, length, Some, refl, ap, ◌∙◌, sym, arith}
use Rattle.std.specs.List.{slice_get}
use Rattle.cost.specs.Kinds.{Meaning}
use Rattle.plans.specs.Plans.{last_limit}
use Rattle.plans.proofs.Members.{none-some}
use Rattle.fronts.specs.declared.row.Row.{Row}
use Rattle.fronts.specs.Rows.{rows_of}
use Rattle.fronts.specs.Views.{listed_rows}
use Rattle.fronts.proofs.plan.limit_of_last.Goals as goal

limit_last : {C : Type 0} (k : Meaning C) (rs : List Row) (r : Row) → slice_get rs (length rs - 1) ≡ Some r → r.limit ≡ last_limit (rows_of k rs)
limit_last k [] r e = absurd (none-some refl e)
limit_last k (s ∷ []) r e = let same : s ≡ r = cc in sym (ap (λ (x : Row). x.limit) same)
limit_last k (s ∷ (t ∷ rs)) r e = let n : length (s ∷ (t ∷ rs)) - 1 ≡ suc (length (t ∷ rs) - 1) = omega arith in limit_last k (t ∷ rs) r (sym (ap (slice_get (s ∷ (t ∷ rs))) n) ∙ e)

pub returns-in-Some : goal.returns-in-Some
returns-in-Some g c = limit_last g.K.Kind.meaning (listed_rows c.args.rows.now) c.in-Some.row.now (ap (λ (rs : List Row). slice_get rs (length rs - 1)) (sym c.rows.ensures) ∙ sym c.in-Some.ensures.value)
