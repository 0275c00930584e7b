use Rattle.std.proofs.Common.{List, length, take, sym, ap, ◌∙◌, subst, arith, length-drop, rules}
use Rattle.std.proofs.lemmas.List.{take_rest}
use Rattle.plans.specs.declared.states.State.{State}
use Rattle.plans.specs.Places.{next_places}
use Rattle.fronts.specs.ByLevel.{by_level}
use Rattle.fronts.specs.Merge.{before, Fitting, Outcome, NextRow}
use Rattle.fronts.proofs.Keeping.{outcome_part}
use Rattle.fronts.proofs.Summing.{sums_fit}
use Rattle.fronts.proofs.merge.advance.Goals as goal

pub merge-requires : goal.merge-requires
merge-requires g c =
    let xs = c.args.list.now in
    let rest = sym (take_rest xs c.args.front.start) in
    record {
      within = omega (arith, ap length rest, length-drop c.args.front.start xs, c.requires.within);
      positions = search rules;
      fits = subst (λ (l : List (State g.row.K.Denot)). Fitting g.K.Kind.meaning (before g.K.Kind.meaning c.args.front.base (take c.args.front.count l)) (by_level c.args.offers.now)) rest (sums_fit g.K.Kind.meaning g.met.K.Kind.laws _ (by_level c.args.offers.now) c.args.bound c.requires.row);
    }

pub returns : goal.returns
returns g c row done later turn =
    let k = g.K.Kind.meaning in
    let xs = c.args.list.now in
    let rest = take_rest xs c.args.front.start in
    outcome_part xs c.merge.new.part c.args.front.start c.args.front.count (next_places k c.args.front.base row done later) c.requires.within (c.merge.auto.part ∙ ap length rest) c.merge.result
    (subst (λ (l : List (State g.row.K.Denot)). Outcome c.args.front.count (next_places k c.args.front.base row done later) l c.merge.new.part c.merge.result) rest
    (c.merge.ensures row done later
    (subst (λ (l : List (State g.row.K.Denot)). NextRow k (before k c.args.front.base (take c.args.front.count l)) (by_level c.args.offers.now) c.args.bound row done later) (sym rest) turn)))
