-- The tasks of a book with one task more.
use Rattle.std.proofs.Common.{◌≡◌, ℕ, ◌+◌, ◌-◌, ◌≤◌, Bool, true, false, cond, ◌&&◌, ltb, leb, List, [], ◌∷◌, set, is_some, Some, None, Ok, Err, Option, sym, refl, ap, ◌∙◌, arith}
use Rattle.std.specs.Option.{option_map}
use Rattle.std.proofs.lemmas.Bool.{and_parts, and_from, leb-true, leb-false, le-leb, lt-ltb, le-ltb}
use Rattle.board.specs.declared.dues.Due.TheVariants.{Period, Deadline}
use Rattle.board.specs.declared.faults.Fault.{Fault}
use Rattle.board.specs.declared.faults.Fault.TheVariants.{LongHyperperiod}
use Rattle.board.specs.declared.periods.Hyperperiod.{Hyperperiod}
use Rattle.board.specs.declared.tasks.Task.{Task}
use Rattle.board.specs.Processors.{ProcessorFigures}
use Rattle.board.specs.Periods.{longest}
use Rattle.board.specs.Tasks.{FiguresOfTask, figures_fit, busy_time, top_speed, judged}
use Rattle.board.specs.Views.{processor_figures, task_figures}
use Rattle.plans.specs.Boards.{standing, joint_period}
use Rattle.tally.specs.Tally.{Tally, put, admit}
use Rattle.tally.specs.Refusals.{first, no_such_port, port_taken, long_period, refused}
use Rattle.tally.specs.Boards.{has_period, top_offered, periodic_task, sporadic_task, each_task, periodic_tasks, sporadic_tasks}
use Rattle.tally.proofs.Refusing.{on_port, declined_by_port, declined_by_figures, declined_by_period, admitted, judged_good}
use Rattle.book.specs.declared.periodic.PeriodicBook.{PeriodicBook}
use Rattle.book.specs.declared.sporadic.SporadicBook.{SporadicBook}
use Rattle.book.specs.Tasks.{task_of, figures_of, each_period, if_short, free_place}
use Rattle.book.specs.Views.{periodic_figures, sporadic_figures}
use Rattle.book.proofs.Placing.{taken_lines, place_error, place_good, figures_set, each_set}

-- whether a hyperperiod was found says whether it is short
module _ (r : Option Hyperperiod) (h : ℕ) (is : option_map (λ (x : Hyperperiod). x.micros) r ≡ if_short h) where
  found : is_some r ≡ leb h longest
  found = kept r ∙ ap is_some is ∙ by (leb h longest)
    where
      kept : (o : Option Hyperperiod) → is_some o ≡ is_some (option_map (λ (x : Hyperperiod). x.micros) o)
      kept None = refl
      kept (Some x) = refl

      by : (b : Bool) → is_some (cond b (Some h) None) ≡ b
      by true = refl
      by false = refl

  pub not_found : is_some r ≡ false → ltb longest h ≡ true
  not_found e = lt-ltb longest h (leb-false h longest (sym found ∙ e))

  pub is_found : is_some r ≡ true → h ≤ longest
  is_found e = leb-true h longest (sym found ∙ e)

-- each task of a periodic book has a period
pub have_periods : (p : ProcessorFigures) (ts : List (Option FiguresOfTask)) → each_task (periodic_task p) ts ≡ true → each_period ts ≡ true
have_periods p [] fit = refl
have_periods p (None ∷ ts) fit = have_periods p ts fit
have_periods p (Some t ∷ ts) fit =
    let parts = and_parts (periodic_task p t) (each_task (periodic_task p) ts) fit in
    and_from _ _ (and_parts (has_period t.due) (figures_fit p t && top_offered p t) parts.0).0 (have_periods p ts parts.1)

-- a task that a caller names for a port of a book
module _ (p : ProcessorFigures) (capacity clock : ℕ) (raw : List (Option Task)) (port : ℕ) (figures : FiguresOfTask) where
  abbrev t : Tally
  t = record { capacity = capacity; clock = clock; tasks = figures_of raw }

  pub by_port : (f : Fault) → Err f ≡ free_place raw port → refused p t (admit port figures) ≡ Some f
  by_port f e = declined_by_port p t port figures f (sym (taken_lines raw port) ∙ place_error (port - 1) (first (no_such_port port ∷ port_taken raw port ∷ [])) f e)

  module _ (place : ℕ) (free : Ok place ≡ free_place raw port) where
    at_port : (place ≡ port - 1) × (first (on_port p t port figures) ≡ None)
    at_port =
        let good = place_good (port - 1) (first (no_such_port port ∷ port_taken raw port ∷ [])) place free in
        (good.0, sym (taken_lines raw port) ∙ good.1)

    pub by_figures : (f : Fault) → Err f ≡ judged p port clock figures → refused p t (admit port figures) ≡ Some f
    by_figures f e = declined_by_figures p t port figures at_port.1 f e

    module _ (task : Task) (good : Ok (task_figures task) ≡ judged p port clock figures) where
      abbrev pub tasks : List (Option FiguresOfTask)
      tasks = figures_of (set raw place (Some task))

      pub tasks_with : tasks ≡ (put t port (Some figures)).tasks
      tasks_with =
          figures_set raw place (Some task) ∙ ap (λ x. set (figures_of raw) place (Some x)) (judged_good p port clock (task_figures task) figures good).0
          ∙ ap (λ n. set (figures_of raw) n (Some figures)) at_port.0

      each_with : (test : FiguresOfTask → Bool) → each_task test (figures_of raw) ≡ true → test figures ≡ true → each_task test tasks ≡ true
      each_with test each e = ap (each_task test) tasks_with ∙ each_set test (figures_of raw) (port - 1) (Some figures) each e

      pub taken_in : long_period (put t port (Some figures)).tasks figures.due ≡ false → refused p t (admit port figures) ≡ None
      taken_in e = admitted p t port figures at_port.1 (task_figures task) good e

      pub by_period : long_period (put t port (Some figures)).tasks figures.due ≡ true → refused p t (admit port figures) ≡ Some (LongHyperperiod port)
      by_period e = declined_by_period p t port figures at_port.1 (task_figures task) good e

-- in a periodic book
module _ (book : PeriodicBook) (port cycles access : ℕ) (shares : List ℕ) (period : ℕ) where
  abbrev periodic_one : FiguresOfTask
  periodic_one = task_of cycles access shares (Period period)

  abbrev q : ProcessorFigures
  q = processor_figures book.processor

  abbrev c : ℕ
  c = book.capacity.thousandths

  module _ (place : ℕ) (free : Ok place ≡ free_place book.tasks port) (task : Task) (good : Ok (task_figures task) ≡ judged q port 0 periodic_one) where
    abbrev us : List (Option FiguresOfTask)
    us = figures_of (set book.tasks place (Some task))

    periodic_each : each_task (periodic_task q) us ≡ true
    periodic_each =
        let parts = judged_good q port 0 (task_figures task) periodic_one good in
        each_with q c 0 book.tasks port periodic_one place free task good (periodic_task q)
        (and_parts (each_task (periodic_task q) (figures_of book.tasks)) (leb (joint_period (standing 1 (figures_of book.tasks))) longest) book.fit).0
        (and_from _ _ parts.2 (and_from _ _ parts.1 parts.3))

    pub periods_with : each_period us ≡ true
    periods_with = have_periods q us periodic_each

    module _ (r : Option Hyperperiod) (is : option_map (λ (x : Hyperperiod). x.micros) r ≡ if_short (joint_period (standing 1 us))) where
      pub periodic_long : is_some r ≡ false → refused q (periodic_figures book).tally (admit port periodic_one) ≡ Some (LongHyperperiod port)
      periodic_long e =
          by_period q c 0 book.tasks port periodic_one place free task good
          (ap (λ xs. ltb longest (joint_period (standing 1 xs))) (sym (tasks_with q c 0 book.tasks port periodic_one place free task good)) ∙ not_found r (joint_period (standing 1 us)) is e)

      pub periodic_taken : is_some r ≡ true → refused q (periodic_figures book).tally (admit port periodic_one) ≡ None
      periodic_taken e =
          taken_in q c 0 book.tasks port periodic_one place free task good
          (ap (λ xs. ltb longest (joint_period (standing 1 xs))) (sym (tasks_with q c 0 book.tasks port periodic_one place free task good)) ∙ le-ltb longest (joint_period (standing 1 us)) (is_found r (joint_period (standing 1 us)) is e))

      pub periodic_fit : is_some r ≡ true → periodic_tasks q us ≡ true
      periodic_fit e = and_from _ _ periodic_each (le-leb (joint_period (standing 1 us)) longest (is_found r (joint_period (standing 1 us)) is e))

-- a deadline that is near enough is met at the top level in 60,000,000 µs
near : (busy clock d : ℕ) → leb busy (d - clock) ≡ true → (ltb clock d && leb d (clock + longest)) ≡ true → leb busy longest ≡ true
near busy clock d quick fits =
    let parts = and_parts (ltb clock d) (leb d (clock + longest)) fits in
    le-leb busy longest (omega (arith, leb-true busy (d - clock) quick, leb-true d (clock + longest) parts.1))

-- in a sporadic book
module _ (book : SporadicBook) (port cycles access : ℕ) (shares : List ℕ) (deadline : ℕ) where
  abbrev sporadic_one : FiguresOfTask
  sporadic_one = task_of cycles access shares (Deadline deadline)

  abbrev sp : ProcessorFigures
  sp = processor_figures book.processor

  module _ (place : ℕ) (free : Ok place ≡ free_place book.tasks port) (task : Task) (good : Ok (task_figures task) ≡ judged sp port book.clock sporadic_one) where
    pub sporadic_taken : refused sp (sporadic_figures book).tally (admit port sporadic_one) ≡ None
    sporadic_taken = taken_in sp 1000 book.clock book.tasks port sporadic_one place free task good refl

    pub sporadic_fit : sporadic_tasks sp (figures_of (set book.tasks place (Some task))) ≡ true
    sporadic_fit =
        let parts = judged_good sp port book.clock (task_figures task) sporadic_one good in
        each_with sp 1000 book.clock book.tasks port sporadic_one place free task good (sporadic_task sp) book.fit
        (and_from _ _ parts.1 (near (busy_time cycles (top_speed sp.levels)) book.clock deadline parts.3 parts.2))
