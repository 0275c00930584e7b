use Rattle.plans.proofs.theorems.boards_hold.Goals as goal

pub returns : goal.returns
returns c = tt
