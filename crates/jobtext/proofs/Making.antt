-- What calls make of the book of a job.
use Rattle.std.proofs.Common.{◌≡◌, ℕ, refl}
use Rattle.cost.specs.Kinds.{Meaning}
use Rattle.jobtext.specs.Calls.{CallOfJob, to_change, to_plan, to_try}
use Rattle.jobtext.specs.Books.{JobBook}
use Rattle.jobtext.specs.Made.{made}

-- no call changes the processor
pub same_processor : {C : Type 0} (k : Meaning C) (room : ℕ) (b : JobBook) (call : CallOfJob) → (made k room b call).book.figures.processor ≡ b.figures.processor
same_processor k room b (to_change call) = refl
same_processor k room b to_plan = refl
same_processor k room b (to_try capacity) = refl
