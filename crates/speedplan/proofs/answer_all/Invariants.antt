use Rattle.jobtext.specs.Jobs.{most_left}
use Rattle.jobtext.specs.Views.{stage_view}
use Rattle.speedplan.proofs.answer_all.Given as goal

abbrev pub decreases-loop-answered : goal.decreases-loop-answered
decreases-loop-answered g l = most_left l.text (stage_view l.job.stage)
