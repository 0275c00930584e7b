use Rattle.std.proofs.Common.{◌≡◌, ◌<◌, true, length, is_some, Some, sym, subst, rules}
use Rattle.jobtext.specs.Jobs.{turn, most_left, stage_after, answered}
use Rattle.jobtext.specs.Views.{stage_view}
use Rattle.jobtext.proofs.Ending.{fewer_left}
use Rattle.jobtext.proofs.jobs.Job.next.Goals as goal

pub returns-clause-fewer : goal.returns-clause-fewer
returns-clause-fewer g c =
    let k = g.K.Kind.meaning in
    let text = c.args.text.now in
    let room = length c.args.list.now in
    let found = c.args.answer.now in
    let stage = stage_view c.args.self.now.stage in
    let next = turn k text room (length found) stage in
    let gave : Some (record { outcome = c.in_ok-outcome.outcome; length = c.write_answer-length.result }) ≡ answered g.K.Kind.numbers next found = search rules in
    let came : stage_view c.turn.new.self.stage ≡ stage_after stage next = search rules in
    λ e. subst (λ s. most_left text s < most_left text stage) (sym came) (fewer_left k text room (length found) g.K.Kind.numbers found stage (subst (λ r. is_some r ≡ true) gave e))
