use Rattle.std.proofs.Common.{◌≡◌, None, ap, ◌∙◌, arith, rules}
use Rattle.std.proofs.lemmas.Grind.{common_steps}
use Rattle.jobtext.specs.Lines.{cut}
use Rattle.jobtext.specs.Places.{cut_at}
use Rattle.jobtext.proofs.Cutting.{cut_by_position}
use Rattle.jobtext.proofs.readers.Reader.line.Goals as goal

pub returns-in_err-length-clause-cut : goal.returns-in_err-length-clause-cut
returns-in_err-length-clause-cut c =
    let bs = c.args.self.now.rest.now in
    let none : None ≡ cut bs = ap (cut_at bs) c.in_err-length.ensures.first ∙ cut_by_position bs in
    search rules

pub returns-clause-cut : goal.returns-clause-cut
returns-clause-cut c =
    let bs = c.args.self.now.rest.now in
    let some = ap (cut_at bs) c.in_ok-length.ensures.first ∙ cut_by_position bs in
    grind (arith, common_steps)
