use Rattle.std.proofs.Common.{◌≡◌, ◌+◌, ◌*◌, mul-le-mul, arith}
use Rattle.std.proofs.lemmas.Bool.{leb-true}
use Rattle.board.specs.declared.measures.Measure.{Measure}
use Rattle.board.specs.Measures.{measure}
use Rattle.board.specs.Views.{processor_figures, task_figures}
use Rattle.board.proofs.Offering.{bounded}
use Rattle.board.proofs.offers.makes.measure.Goals as goal

pub overflow_mul-energy : goal.overflow_mul-energy
overflow_mul-energy c =
    let m : Measure = measure (processor_figures c.args.processor.now) (task_figures c.args.task.now) c.args.hyperperiod c.args.level in
    let b = bounded c.args.processor.now c.args.task.now c.args.hyperperiod c.args.level c.requires.shares c.requires.level.strong c.requires.short (leb-true _ _ c.requires.taken) in
    let e : c.draw-draw.result * c.busy_time-busy.result ≡ m.draw * m.busy = cc in
    omega (arith, mul-le-mul b.drawn b.quick)

pub overflow_add-energy : goal.overflow_add-energy
overflow_add-energy c =
    let m : Measure = measure (processor_figures c.args.processor.now) (task_figures c.args.task.now) c.args.hyperperiod c.args.level in
    let b = bounded c.args.processor.now c.args.task.now c.args.hyperperiod c.args.level c.requires.shares c.requires.level.strong c.requires.short (leb-true _ _ c.requires.taken) in
    let e : c.draw-draw.result * c.busy_time-busy.result ≡ m.draw * m.busy = cc in
    omega (arith, mul-le-mul b.drawn b.quick, c.args.task.now.modest)

pub overflow_mul-energy-3 : goal.overflow_mul-energy-3
overflow_mul-energy-3 c =
    let m : Measure = measure (processor_figures c.args.processor.now) (task_figures c.args.task.now) c.args.hyperperiod c.args.level in
    let b = bounded c.args.processor.now c.args.task.now c.args.hyperperiod c.args.level c.requires.shares c.requires.level.strong c.requires.short (leb-true _ _ c.requires.taken) in
    let e : c.jobs-jobs.result * (c.draw-draw.result * c.busy_time-busy.result + 1000 * c.access.result) ≡ m.energy = cc in
    omega arith
