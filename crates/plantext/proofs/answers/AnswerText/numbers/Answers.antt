use Rattle.std.proofs.Common.{arith}
use Rattle.std.proofs.lemmas.Grind.{common_steps}
use Rattle.plantext.proofs.Costing.{no_number, one_number, two_numbers}
use Rattle.plantext.proofs.answers.AnswerText.numbers.Goals as goal

pub returns-in_default-clause-text : goal.returns-in_default-clause-text
returns-in_default-clause-text g c =
    let none = no_number (g.K.Kind.numbers c.args.cost.now) c.in_default.ensures in
    grind (arith, common_steps)

pub returns-in_default-number-clause-text : goal.returns-in_default-number-clause-text
returns-in_default-number-clause-text g c =
    let one = one_number (g.K.Kind.numbers c.args.cost.now) c.in-Some.first c.in-Some.ensures c.in_default-number.ensures in
    grind (arith, common_steps)

pub returns-clause-text : goal.returns-clause-text
returns-clause-text g c =
    let both = two_numbers (g.K.Kind.numbers c.args.cost.now) c.in-Some.first c.in-Some-number.second (g.met.K.JobKind.few c.args.cost.now) c.in-Some.ensures c.in-Some-number.ensures in
    grind (arith, common_steps)
