use Rattle.plans.proofs.Fitting.{none_fits_exactly}
use Rattle.plans.proofs.theorems.none_fits_exactly.Goals as goal

pub returns : goal.returns
returns g c rows board room buffer long = none_fits_exactly g.K.Kind.meaning rows room buffer long board
