-- Serving a task of a book.
use Rattle.std.proofs.Common.{◌≡◌, ℕ, ◌-◌, ◌<◌, Bool, true, false, cond, List, [], ◌∷◌, length, get_or, set, Some, None, Ok, Err, Option, sym, refl, ap, ◌∙◌, arith}
use Rattle.std.specs.Option.{option_map}
use Rattle.std.proofs.lemmas.List.{get_or_read, length-map}
use Rattle.board.specs.declared.faults.Fault.{Fault}
use Rattle.board.specs.declared.faults.Fault.TheVariants.{BadFigure}
use Rattle.board.specs.declared.tasks.Task.{Task}
use Rattle.board.specs.Processors.{ProcessorFigures, between}
use Rattle.board.specs.Views.{task_figures}
use Rattle.board.proofs.Passing.{pass_at}
use Rattle.tally.specs.Tally.{Tally, task_at, put, serve}
use Rattle.tally.specs.Refusals.{first, no_such_port, port_free, remaining, refused}
use Rattle.tally.specs.Steps.{served}
use Rattle.tally.specs.Boards.{on_task, sporadic_task, sporadic_tasks}
use Rattle.tally.proofs.Serving.{rest_fits, serve_by_port, serve_by_cycles, serve_taken}
use Rattle.book.specs.Tasks.{figures_of, taken_place, rest_after}
use Rattle.book.proofs.Placing.{figures_at, free_lines, place_error, place_good, figures_set, each_set}

-- what a cond answers, by what came out
came_error : {X : Type 0} (b : Bool) (x : X) (g f : Fault) → Err f ≡ cond b (Ok x) (Err g) → (b ≡ false) × (g ≡ f)
came_error true x g f e = absurd (let z : ◌≡◌ {A = ℕ} 0 1 = cc in omega arith)
came_error false x g f e = (refl, cc)

came_good : {X : Type 0} (b : Bool) (x y : X) (g : Fault) → Ok y ≡ cond b (Ok x) (Err g) → (b ≡ true) × (y ≡ x)
came_good true x y g e = (refl, cc)
came_good false x y g e = absurd (let z : ◌≡◌ {A = ℕ} 0 1 = cc in omega arith)

module _ (p : ProcessorFigures) (capacity clock : ℕ) (raw : List (Option Task)) (port cycles : ℕ) where
  abbrev t : Tally
  t = record { capacity = capacity; clock = clock; tasks = figures_of raw }

  pub by_port : (f : Fault) → Err f ≡ taken_place raw port → refused p t (serve port cycles) ≡ Some f
  by_port f e = serve_by_port p t port cycles f (sym (free_lines raw port) ∙ place_error (port - 1) (first (no_such_port port ∷ port_free raw port ∷ [])) f e)

  module _ (place : ℕ) (found : Ok place ≡ taken_place raw port) (o : Option Task) (within : place < length raw) (is : o ≡ get_or raw place o) where
    at_port : (place ≡ port - 1) × (first (no_such_port port ∷ port_free (figures_of raw) port ∷ []) ≡ None)
    at_port =
        let good = place_good (port - 1) (first (no_such_port port ∷ port_free raw port ∷ [])) place found in
        (good.0, sym (free_lines raw port) ∙ good.1)

    -- the task that was read is the one at the port
    read : option_map task_figures o ≡ task_at t port
    read =
        ap (option_map task_figures) (get_or_read raw place o within is None) ∙ ap (λ n. option_map task_figures (get_or raw n None)) at_port.0 ∙ sym (figures_at raw (port - 1))

    pub by_cycles : (f : Fault) → Err f ≡ rest_after o port cycles → refused p t (serve port cycles) ≡ Some f
    by_cycles f e =
        let came = came_error (between 1 (remaining (option_map task_figures o)) cycles) (served cycles (option_map task_figures o)) (BadFigure port) f e in
        serve_by_cycles p t port cycles at_port.1 (ap (λ x. between 1 (remaining x) cycles) (sym read) ∙ came.0) ∙ ap Some came.1

    module _ (rest : Option Task) (good : Ok (option_map task_figures rest) ≡ rest_after o port cycles) where
      came : (between 1 (remaining (option_map task_figures o)) cycles ≡ true) × (option_map task_figures rest ≡ served cycles (option_map task_figures o))
      came = came_good (between 1 (remaining (option_map task_figures o)) cycles) (served cycles (option_map task_figures o)) (option_map task_figures rest) (BadFigure port) good

      pub taken : refused p t (serve port cycles) ≡ None
      taken = serve_taken p t port cycles at_port.1 (ap (λ x. between 1 (remaining x) cycles) (sym read) ∙ came.0)

      pub tasks_with : figures_of (set raw place rest) ≡ (put t port (served cycles (task_at t port))).tasks
      tasks_with = figures_set raw place rest ∙ ap (λ x. set (figures_of raw) place x) (came.1 ∙ ap (served cycles) read) ∙ ap (λ n. set (figures_of raw) n (served cycles (task_at t port))) at_port.0

      pub fit_with : sporadic_tasks p (figures_of raw) ≡ true → sporadic_tasks p (figures_of (set raw place rest)) ≡ true
      fit_with fit =
          ap (sporadic_tasks p) (figures_set raw place rest ∙ ap (λ x. set (figures_of raw) place x) came.1)
          ∙ each_set (sporadic_task p) (figures_of raw) place (served cycles (option_map task_figures o)) fit
          (rest_fits p (option_map task_figures o) cycles
          (ap (on_task (sporadic_task p)) (ap (option_map task_figures) (get_or_read raw place o within is None) ∙ sym (figures_at raw place))
          ∙ pass_at (on_task (sporadic_task p)) (figures_of raw) place None fit (omega (arith, length-map raw (option_map task_figures)))))
