use Rattle.std.proofs.Common.{◌≡◌, ℕ, ◌+◌, ◌-◌, ◌<◌, ◌≤◌, List, [], ◌∷◌, reverse, length, length-append, get_or, take, drop, replicate, None, Option, sym, ap, ◌∙◌, subst, arith, rules}
use Rattle.std.proofs.lemmas.List.{take_all}
use Rattle.cost.specs.Kinds.{Meaning}
use Rattle.plans.specs.Choices
use Rattle.fronts.specs.declared.row.Row.{Row}
use Rattle.fronts.specs.Rows.{row_of, rows_of}
use Rattle.fronts.proofs.Rowing.{rows_stand, done_more, port_within}
use Rattle.fronts.proofs.Bounding.{rows_from, rows_end}
use Rattle.fronts.proofs.Lasts.{last_taken}
use Rattle.fronts.proofs.Returning.{Way, way_starts, position_some, position_listed, way_on, way_ends}
use Rattle.fronts.specs.Views.{listed_rows}
use Rattle.fronts.proofs.Apart.{counted}
use Rattle.fronts.proofs.back.way_back.Given as given
use Rattle.fronts.proofs.back.way_back.Goals as goal

-- the way with so many rows done
abbrev WayAt : {C : Type 0} → Meaning C → List Row → ℕ → ℕ → List (Option ℕ) → Type 0
WayAt k rs n position picks = Way k (rows_of k rs) (reverse (rows_of k (take n rs))) (rows_of k (drop n rs)) position picks

way_left : {C : Type 0} (k : Meaning C) (rs : List Row) (i : ℕ) → i < length rs → (r : Row) → r ≡ get_or rs i r → {position : ℕ} {picks : List (Option ℕ)} →
    Way k (rows_of k rs) (reverse (rows_of k (take i rs))) (row_of k r ∷ rows_of k (drop (i + 1) rs)) position picks → WayAt k rs i position picks
way_left {C} k rs i h r is {position} {picks} w = subst (λ (later : List (Choices.Row C)). Way k (rows_of k rs) (reverse (rows_of k (take i rs))) later position picks) (sym (rows_from k rs i h r is)) w

-- the row that is left next, which is the last of those done
module _ (g : given.Over) (c : goal.In-Some g) where
  abbrev rest : List Row
  rest = c.next.new.self.iter.rest.now

  abbrev listed : List Row
  listed = listed_rows c.args.rows.now

  abbrev row : Row
  row = c.in-Some.row.now

  last : (rest ≡ take (length rest) listed) × (length rest < length listed) × ((d : Row) → row ≡ get_or listed (length rest) d)
  last = last_taken rest listed row (sym c.in-Some.ensures.steps ∙ c.loop-row.invariant.1 ∙ ap (λ (xs : List Row). take (length xs) listed) c.in-Some.ensures.steps)

  within : (1 ≤ row.port) × (row.port ≤ 48)
  within = port_within listed c.args.rows.now.fit (length rest) last.1 row (last.2 row)

  way : Way g.K.Kind.meaning (rows_of g.K.Kind.meaning listed) (row_of g.K.Kind.meaning row ∷ reverse (rows_of g.K.Kind.meaning (take (length rest) listed))) (rows_of g.K.Kind.meaning (drop (length rest + 1) listed)) c.loop-row.position c.loop-row.picks
  way =
      let k = g.K.Kind.meaning in
      let rs = listed in
      let on : length c.loop-row.row-iterator.iter.rest.now ≡ length rest + 1 = ap length c.in-Some.ensures.steps ∙ length-append rest (row ∷ []) in
      let one : WayAt k rs (length rest + 1) c.loop-row.position c.loop-row.picks = subst (λ m. WayAt k rs m c.loop-row.position c.loop-row.picks) on c.loop-row.invariant.0 in
      subst (λ (done : List (Choices.Row g.row.K.Denot)). Way k (rows_of k rs) done (rows_of k (drop (length rest + 1) rs)) c.loop-row.position c.loop-row.picks) (done_more k rs (length rest) last.1 row (last.2 row)) one

pub loop-row-init : goal.loop-row-init
loop-row-init g c =
    let k = g.K.Kind.meaning in
    let rs = listed_rows c.args.rows.now in
    let rows = rows_of k rs in
    let start = way_starts k g.met.K.Kind.laws rows c.requires.kept (rows_stand k rs (counted c.args.rows.now) c.args.rows.now.fit) in
    let at_last = subst (λ n. Way k rows (reverse rows) [] n (replicate 48 None)) (sym c.requires.start) start in
    let all = subst (λ (xs : List Row). Way k rows (reverse (rows_of k xs)) [] c.args.last (replicate 48 None)) (sym (take_all (length rs) rs (omega arith))) at_last in
    let whole : WayAt k rs (length rs) c.args.last (replicate 48 None) = subst (λ (later : List (Choices.Row g.row.K.Denot)). Way k rows (reverse (rows_of k (take (length rs) rs))) later c.args.last (replicate 48 None)) (sym (rows_end k rs (length rs) (omega arith))) all in
    let is : c.into_iter-row-iterator.result.iter.rest.now ≡ rs = search rules in
    (subst (λ (xs : List Row). WayAt k rs (length xs) c.args.last (replicate 48 None)) (sym is) whole, is ∙ sym (take_all (length rs) rs (omega arith)) ∙ ap (λ (xs : List Row). take (length xs) rs) (sym is))

pub overflow_sub-at : goal.overflow_sub-at
overflow_sub-at g c = (within g c).0

pub overflow_sub-state : goal.overflow_sub-state
overflow_sub-state g c = position_some g.K.Kind.meaning g.met.K.Kind.laws (rows_of g.K.Kind.meaning (listed_rows c.args.rows.now)) c.requires.kept c.args.list.now c.requires.held (way g c)

pub bounds-list-position : goal.bounds-list-position
bounds-list-position g c = position_listed g.K.Kind.meaning g.met.K.Kind.laws (rows_of g.K.Kind.meaning (listed_rows c.args.rows.now)) c.requires.kept c.args.list.now c.requires.held (way g c)

pub offset_bounds-list-position : goal.offset_bounds-list-position
offset_bounds-list-position g c = let h = bounds-list-position g c in omega (arith, h)

pub bounds-picks-at : goal.bounds-picks-at
bounds-picks-at g c = omega (arith, (within g c.before).0, (within g c.before).1)

pub offset_bounds-picks-at : goal.offset_bounds-picks-at
offset_bounds-picks-at g c = let h = bounds-picks-at g c in search rules

pub bounds-picks-at-in-loop-row : goal.bounds-picks-at-in-loop-row
bounds-picks-at-in-loop-row g c = omega (arith, (within g c.before.before.before).0, (within g c.before.before.before).1)

pub offset_bounds-picks-at-in-loop-row : goal.offset_bounds-picks-at-in-loop-row
offset_bounds-picks-at-in-loop-row g c = let h = bounds-picks-at-in-loop-row g c in search rules

pub loop-row-preserved : goal.loop-row-preserved
loop-row-preserved g c =
    let k = g.K.Kind.meaning in
    let rs = listed_rows c.args.rows.now in
    let s = c.before.before.before in
    let r = row g s in
    let port = within g s in
    let p = last g s in (
      way_left k rs (length (rest g s)) p.1 r (p.2 r)
          (way_on k g.met.K.Kind.laws (rows_of k rs) c.requires.kept c.args.list.now c.requires.held (way g s) c.index-list-position.result c.index-list-position.is (r.port - 1) (omega (arith, port.0)) (omega (arith, port.0, port.1)) c.or.result c.or.ensures),
      p.0,
    )

pub returns : goal.returns
returns g c =
    let k = g.K.Kind.meaning in
    let rs = listed_rows c.args.rows.now in
    let end : length c.loop-row.row-iterator.iter.rest.now ≡ 0 = search rules in
    let w : WayAt k rs 0 c.loop-row.position c.loop-row.picks = subst (λ n. WayAt k rs n c.loop-row.position c.loop-row.picks) end c.loop-row.invariant.0 in
    way_ends k (rows_of k rs) w
