use Rattle.plans.proofs.Standings.{periodic_stand, sporadic_stand}
use Rattle.plans.proofs.theorems.boards_have_rows.Goals as goal

pub returns : goal.returns
returns g c p ss few = (periodic_stand g.K.Kind.meaning p ss few, sporadic_stand g.K.Kind.meaning p ss few)
