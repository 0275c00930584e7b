use Rattle.std.proofs.Common.{length, take, Some, Ok, refl, sym, ap, ◌∙◌, arith, rules}
use Rattle.std.proofs.lemmas.Result.{err_from_is_err_and}
use Rattle.plans.specs.Plans.{figures}
use Rattle.plans.specs.Places.{places}
use Rattle.fronts.specs.Rows.{rows_of}
use Rattle.fronts.specs.Views.{listed_rows}
use Rattle.fronts.proofs.Planning.{none_passed, answers_plan, answers_none_fits, promised, promised_full, figures_are, places_first}
use Rattle.fronts.proofs.plan.plan.Goals as goal

pub returns-in-Some : goal.returns-in-Some
returns-in-Some g c =
    let k = g.K.Kind.meaning in
    let rows = rows_of k (listed_rows c.args.rows.now) in
    let given = answers_none_fits k rows (length c.args.list.now) (length c.args.levels.now) (omega arith) c.in-Some.fault (sym c.in-Some.ensures) in
    promised k g.met.K.Kind.laws c.args.rows.now c.args.list.now c.args.list.now c.args.levels.now c.args.levels.now _ (sym given) (search rules) refl

pub make_fronts-requires : goal.make_fronts-requires
make_fronts-requires g c = record { loads = none_passed (rows_of g.K.Kind.meaning (listed_rows c.args.rows.now)) (sym c.in_default.ensures); bounds = c.bounds-bounds.ensures }

pub returns-in_err-made : goal.returns-in_err-made
returns-in_err-made g c =
    let k = g.K.Kind.meaning in
    let p = err_from_is_err_and c.from_residual.result c.from_residual.ensures.1 in
    rw p.1 (promised_full k g.met.K.Kind.laws c.args.rows.now c.args.list.now c.make_fronts.new.list c.args.levels.now c.args.levels.now p.0 (sym c.in_default.ensures) (c.in_err-made.ensures ∙ ap Some (sym p.2)) (omega arith) refl)

pub best_pair-best-requires : goal.best_pair-best-requires
best_pair-best-requires g c = record { loads = none_passed (rows_of g.K.Kind.meaning (listed_rows c.args.rows.now)) (sym c.in_default.ensures); last = c.in_ok-made.ensures.last }

pub tell_levels-requires : goal.tell_levels-requires
tell_levels-requires g c =
    let k = g.K.Kind.meaning in
    let rows = rows_of k (listed_rows c.args.rows.now) in
    let laid = c.in_ok-made.ensures in
    record {
      stand = record {
        kept = none_passed rows (sym c.in_default.ensures);
        held = ap (take (length (places k rows))) laid.list ∙ places_first (places k rows) c.args.list.now;
        start = laid.last.position;
      };
      room = omega arith;
    }

pub returns : goal.returns
returns g c =
    let k = g.K.Kind.meaning in
    let rows = rows_of k (listed_rows c.args.rows.now) in
    let laid = c.in_ok-made.ensures in
    let given = answers_plan k rows (length c.args.list.now) (length c.args.levels.now) (omega arith) (sym c.in_default.ensures) laid.room in
    promised k g.met.K.Kind.laws c.args.rows.now c.args.list.now c.make_fronts.new.list c.args.levels.now c.tell_levels.new.levels _
    (ap Ok (figures_are k rows c.best_pair-best.result c.best_pair-best.ensures c.limit_of_last.result c.limit_of_last.ensures c.in_ok-made.made.states laid.states) ∙ sym given)
    laid.list (c.tell_levels.ensures (figures k rows))
