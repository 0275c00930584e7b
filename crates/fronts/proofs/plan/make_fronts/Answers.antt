use Rattle.std.proofs.Common.{◌≡◌, ◌+◌, ◌≤◌, List, [], ◌∷◌, ◌++◌, inl, inr, reverse, length, length-append, length-drop, take, drop, sym, ap, ◌∙◌, subst, arith}
use Rattle.std.proofs.lemmas.List.{take_all}
use Rattle.plans.specs.Choices
use Rattle.plans.specs.Fronts.{front}
use Rattle.fronts.specs.declared.row.Row.{Row}
use Rattle.fronts.specs.declared.merge.Front.{Front}
use Rattle.fronts.specs.ByLevel.{by_level}
use Rattle.fronts.specs.Rows.{row_of, rows_of}
use Rattle.fronts.proofs.Advancing.{next_row}
use Rattle.fronts.proofs.Bounding.{rows_from, rows_end}
use Rattle.fronts.proofs.Lasts.{first_left}
use Rattle.fronts.proofs.Progress.{Progress, goes_on, stops, ends}
use Rattle.fronts.proofs.Rowing.{done_more}
use Rattle.fronts.specs.Views.{listed_rows}
use Rattle.fronts.proofs.Apart.{counted}
use Rattle.fronts.proofs.plan.make_fronts.Goals as goal

pub advance-requires-clause-row : goal.advance-requires-clause-row
advance-requires-clause-row g c =
    let k = g.K.Kind.meaning in
    let rs = listed_rows c.args.rows.now in
    let i = length c.loop-row.yielded in
    let r = c.in-Some.row.now in
    let inv = c.loop-row.invariant in
    let p = first_left rs i r c.next.new.self.a.rest.now (sym c.in-Some.ensures.steps.0 ∙ inv.2) in
    let q = first_left c.args.bounds.now i c.in-Some.bound.now c.next.new.self.b.rest.now (sym c.in-Some.ensures.steps.1 ∙ inv.3) in
    let pairs = inv.0.pairs ∙ ap (λ (l : List (Choices.Row g.row.K.Denot)). front k (reverse (rows_of k (take i rs))) l) (rows_from k rs i p.0 r (p.1 r)) in
    ∣ (row_of k r, reverse (rows_of k (take i rs)), rows_of k (drop (i + 1) rs), next_row k rs (counted c.args.rows.now) c.requires.loads i p.0 r (p.1 r) _ (by_level c.price_all-offers.result) c.in-Some.bound.now pairs c.price_all-offers.ensures (q.1 0 ∙ c.requires.bounds i r p.0 (p.1 r))) ∣₁

pub returns-in-Err : goal.returns-in-Err
returns-in-Err g c =
    let k = g.K.Kind.meaning in
    let rs = listed_rows c.args.rows.now in
    let i = length c.loop-row.yielded in
    let r = c.in-Some.row.now in
    let all = c.loop-row.invariant in
    let last = c.loop-row.last in
    let p = first_left rs i r c.next.new.self.a.rest.now (sym c.in-Some.ensures.steps.0 ∙ all.2) in
    let q = first_left c.args.bounds.now i c.in-Some.bound.now c.next.new.self.b.rest.now (sym c.in-Some.ensures.steps.1 ∙ all.3) in
    let inv = subst (λ (l : List (Choices.Row g.row.K.Denot)). Progress k c.args.list.now (rows_of k rs) c.loop-row.list (reverse (rows_of k (take i rs))) l last.start last.count last.base) (rows_from k rs i p.0 r (p.1 r)) all.0 in
    let next = next_row k rs (counted c.args.rows.now) c.requires.loads i p.0 r (p.1 r) _ (by_level c.price_all-offers.result) c.in-Some.bound.now inv.pairs c.price_all-offers.ensures (q.1 0 ∙ c.requires.bounds i r p.0 (p.1 r)) in
    stops k c.args.list.now (rows_of k rs) c.loop-row.list (reverse (rows_of k (take i rs))) (rows_of k (drop (i + 1) rs)) (row_of k r) last.start last.count last.base inv
    c.advance.new.list c.in-Err.field-0 (c.in-Err.ensures (row_of k r) (reverse (rows_of k (take i rs))) (rows_of k (drop (i + 1) rs)) next)

pub loop-row-preserved : goal.loop-row-preserved
loop-row-preserved g c =
    let k = g.K.Kind.meaning in
    let rs = listed_rows c.args.rows.now in
    let i = length c.loop-row.yielded in
    let r = c.in-Some.row.now in
    let all = c.loop-row.invariant in
    let last = c.loop-row.last in
    let p = first_left rs i r c.next.new.self.a.rest.now (sym c.in-Some.ensures.steps.0 ∙ all.2) in
    let q = first_left c.args.bounds.now i c.in-Some.bound.now c.next.new.self.b.rest.now (sym c.in-Some.ensures.steps.1 ∙ all.3) in
    let inv = subst (λ (l : List (Choices.Row g.row.K.Denot)). Progress k c.args.list.now (rows_of k rs) c.loop-row.list (reverse (rows_of k (take i rs))) l last.start last.count last.base) (rows_from k rs i p.0 r (p.1 r)) all.0 in
    let next = next_row k rs (counted c.args.rows.now) c.requires.loads i p.0 r (p.1 r) _ (by_level c.price_all-offers.result) c.in-Some.bound.now inv.pairs c.price_all-offers.ensures (q.1 0 ∙ c.requires.bounds i r p.0 (p.1 r)) in
    let on = goes_on k c.args.list.now (rows_of k rs) c.loop-row.list (reverse (rows_of k (take i rs))) (rows_of k (drop (i + 1) rs)) (row_of k r) last.start last.count last.base inv
    c.advance.new.list c.in-Ok.count (c.in-Ok.ensures (row_of k r) (reverse (rows_of k (take i rs))) (rows_of k (drop (i + 1) rs)) next) in
    let more = subst (λ (l : List (Choices.Row g.row.K.Denot)). Progress k c.args.list.now (rows_of k rs) c.advance.new.list l (rows_of k (drop (i + 1) rs)) (last.start + last.count) c.in-Ok.count (last.start + last.count + 1)) (sym (done_more k rs i p.0 r (p.1 r))) on in
    let laid = subst (λ (f : Front). Progress k c.args.list.now (rows_of k rs) c.advance.new.list (reverse (rows_of k (take (i + 1) rs))) (rows_of k (drop (i + 1) rs)) f.start f.count f.base) (sym c.behind-last.ensures) more in
    let turn : i + 1 ≡ length (c.loop-row.yielded ++ (c.in-Some.row, c.in-Some.bound) ∷ []) = sym (length-append c.loop-row.yielded ((c.in-Some.row, c.in-Some.bound) ∷ [])) in (
      subst (λ n. Progress k c.args.list.now (rows_of k rs) c.advance.new.list (reverse (rows_of k (take n rs))) (rows_of k (drop n rs)) c.behind-last.result.start c.behind-last.result.count c.behind-last.result.base) turn laid,
      subst (λ (f : Front). f.base ≤ f.start + 1) (sym c.behind-last.ensures) (omega arith),
      p.2 ∙ ap (λ n. drop n rs) turn,
      q.2 ∙ ap (λ n. drop n c.args.bounds.now) turn,
    )

pub returns : goal.returns
returns g c =
    let k = g.K.Kind.meaning in
    let rs = listed_rows c.args.rows.now in
    let i = length c.loop-row.yielded in
    let inv = c.loop-row.invariant in
    let last = c.loop-row.last in
    let over : length rs ≤ i = elim c.in-None.ensures.steps [
      | inl e ↦ omega (arith, e.1.0, ap length inv.2, length-drop i rs)
      | inr e ↦ omega (arith, e.1.0, ap length inv.3, length-drop i c.args.bounds.now, c.told-bounds, counted c.args.rows.now)
    ] in
    let all : reverse (rows_of k (take i rs)) ≡ reverse (rows_of k rs) = ap (λ (xs : List Row). reverse (rows_of k xs)) (take_all i rs over) in
    let whole = subst (λ (d : List (Choices.Row g.row.K.Denot)). Progress k c.args.list.now (rows_of k rs) c.loop-row.list d [] last.start last.count last.base) all
    (subst (λ (l : List (Choices.Row g.row.K.Denot)). Progress k c.args.list.now (rows_of k rs) c.loop-row.list (reverse (rows_of k (take i rs))) l last.start last.count last.base) (rows_end k rs i over) inv.0) in
    let end = ends k c.args.list.now (rows_of k rs) c.loop-row.list (reverse (rows_of k rs)) last.start last.count last.base whole in
    record {
      room = end.2;
      list = end.0;
      states = c.states_with.ensures ∙ end.1;
      within = omega (arith, whole.room, whole.same);
      last = record { ends = whole.room; pairs = whole.pairs; position = whole.placed };
    }
