-- What a job of this crate stands for.
--   stage_view s        how far it has come
--   started_view r      what a text is opened as, after its header
--   Takes t ..          of a job call came the turn t; Turns: of the next one, if one is left
--   opened_view o       what a text was opened as
use Rattle.std.specs.Prelude.{◌≡◌, ℕ, List, Some, None, Ok, Err, Option, Result}
use Rattle.plans.specs.declared.figures.Figures.{Figures}
use Rattle.plans.specs.declared.states.State.{State}
use Rattle.plantext.specs.declared.faults.JobFault.{JobFault}
use Rattle.jobtext.specs.declared.headers.KindName.TheVariants as kinds
use Rattle.jobtext.specs.declared.jobs.Going.{Going}
use Rattle.jobtext.specs.declared.jobs.Stage.{Stage}
use Rattle.jobtext.specs.declared.jobs.Stage.TheVariants as stages
use Rattle.jobtext.specs.declared.jobs.Opened.{Opened}
use Rattle.jobtext.specs.declared.jobs.Opened.TheVariants as openeds
use Rattle.jobtext.specs.declared.jobs.opens.Started.{Started}
use Rattle.jobtext.specs.Books.{book_view}
use Rattle.jobtext.specs.Jobs as jobs

abbrev pub going_view : Going → jobs.Stage
going_view g = jobs.going g.at g.line (book_view g.book)

abbrev pub stage_view : Stage → jobs.Stage
stage_view stages.Over = jobs.over
stage_view (stages.Faulty e) = jobs.faulty e
stage_view (stages.Going g) = going_view g

abbrev pub started_view : Result Started JobFault → jobs.Opening
started_view (Ok s) = jobs.opening s.kind (going_view s.going)
started_view (Err e) = jobs.opening kinds.Energy (jobs.faulty e)

abbrev pub opened_view : Opened → jobs.Opening
opened_view (openeds.Energy j) = jobs.opening kinds.Energy (stage_view j.stage)
opened_view (openeds.Peak j) = jobs.opening kinds.Peak (stage_view j.stage)
opened_view (openeds.Both j) = jobs.opening kinds.Both (stage_view j.stage)

-- of a job call came just this turn
pub record Takes {C : Type 0} (t : jobs.Turn C) (r : Result (Option (Figures C)) JobFault) (stage : jobs.Stage) (levels : List ℕ) (found list : List (State C)) : Type 0 where
  pub answers : r ≡ t.outcome
  pub goes : stage ≡ t.stage
  pub tells : levels ≡ t.levels
  pub lays : list ≡ t.list found list

-- the same of the next job call, if one is left; else nothing came of it
abbrev pub Turns : {C : Type 0} → Option (jobs.Turn C) → jobs.Stage → Option (Result (Option (Figures C)) JobFault) → jobs.Stage → List ℕ → List (State C) → List (State C) → Type 0
Turns None stage₀ r stage levels found list = (r ≡ None) × (stage ≡ stage₀) × (list ≡ found)
Turns {C} (Some t) stage₀ r stage levels found list = (o : Result (Option (Figures C)) JobFault) × ((r ≡ Some o) × Takes t o stage levels found list)
