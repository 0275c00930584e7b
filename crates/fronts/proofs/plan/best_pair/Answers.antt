use Rattle.std.proofs.Common.{sym, ap, ◌∙◌, arith}
use Rattle.plans.specs.Fronts.{Pair}
use Rattle.fronts.specs.Rows.{rows_of}
use Rattle.fronts.proofs.Cheapest.{best_none, some_place, best_at}
use Rattle.fronts.proofs.Rowing.{rows_stand}
use Rattle.fronts.specs.Views.{listed_rows}
use Rattle.fronts.proofs.Apart.{counted}
use Rattle.fronts.proofs.plan.best_pair.Goals as goal

pub returns-then-made-eq0 : goal.returns-then-made-eq0
returns-then-made-eq0 g c =
    let k = g.K.Kind.meaning in
    let rs = listed_rows c.args.rows.now in
    let m = c.args.made in
    let last = c.requires.last in
    let none = best_none k g.met.K.Kind.laws (rows_of k rs) (rows_stand k rs (counted c.args.rows.now) c.args.rows.now.fit) c.requires.loads c.args.list.now m.last.start m.last.count m.last.base last.ends last.pairs c.if-made-eq0.true in
    ap (λ (z : g.row.K.Denot). (0, z)) c.zero.ensures ∙ sym (ap (λ (p : Pair g.row.K.Denot). (p.load, p.cost)) none)

pub bounds-list-made : goal.bounds-list-made
bounds-list-made g c =
    let k = g.K.Kind.meaning in
    let rs = listed_rows c.args.rows.now in
    let m = c.args.made in
    let last = c.requires.last in
    omega (arith, last.ends, some_place k g.met.K.Kind.laws (rows_of k rs) (rows_stand k rs (counted c.args.rows.now) c.args.rows.now.fit) c.requires.loads c.args.list.now m.last.start m.last.count m.last.base last.ends last.pairs c.if-made-eq0.false)

pub returns : goal.returns
returns g c =
    let k = g.K.Kind.meaning in
    let rs = listed_rows c.args.rows.now in
    let m = c.args.made in
    let last = c.requires.last in
    let is = best_at k g.met.K.Kind.laws (rows_of k rs) (rows_stand k rs (counted c.args.rows.now) c.args.rows.now.fit) c.requires.loads c.args.list.now m.last.start m.last.count m.last.base last.ends last.pairs c.if-made-eq0.false c.index-list-made.result c.index-list-made.is in
    sym (ap (λ (p : Pair g.row.K.Denot). (p.load, p.cost)) is)
