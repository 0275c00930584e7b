-- Calls as a program holds them.
--   periodic_call c     a call of the periodic book, with what is lent to it; sporadic_call: of the sporadic book
use Rattle.board.specs.declared.dues.Due.TheVariants.{Period, Deadline}
use Rattle.tally.specs.Tally.{admit, retire, serve, set_capacity, set_clock}
use Rattle.tally.specs.Lent.{LentCall, in_none, lent_plan, lent_trial}
use Rattle.lives.specs.declared.calls.PeriodicCall.{PeriodicCall}
use Rattle.lives.specs.declared.calls.PeriodicCall.TheVariants as periodic
use Rattle.lives.specs.declared.calls.SporadicCall.{SporadicCall}
use Rattle.lives.specs.declared.calls.SporadicCall.TheVariants as sporadic
use Rattle.book.specs.Tasks.{task_of}

abbrev pub periodic_call : PeriodicCall → LentCall
periodic_call (periodic.Plan places bytes) = lent_plan places bytes
periodic_call (periodic.Admit port cycles access shares period) = in_none (admit port (task_of cycles access shares.now (Period period)))
periodic_call (periodic.Retire port) = in_none (retire port)
periodic_call (periodic.Capacity thousandths) = in_none (set_capacity thousandths)
periodic_call (periodic.Trial thousandths places bytes) = lent_trial thousandths places bytes

abbrev pub sporadic_call : SporadicCall → LentCall
sporadic_call (sporadic.Plan places bytes) = lent_plan places bytes
sporadic_call (sporadic.Admit port cycles access shares deadline) = in_none (admit port (task_of cycles access shares.now (Deadline deadline)))
sporadic_call (sporadic.Retire port) = in_none (retire port)
sporadic_call (sporadic.Serve port cycles) = in_none (serve port cycles)
sporadic_call (sporadic.Clock time) = in_none (set_clock time)
