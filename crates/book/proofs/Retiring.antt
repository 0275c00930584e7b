-- Retiring a task, in a book of either rule.
use Rattle.std.proofs.Common.{◌≡◌, ℕ, ◌-◌, Bool, true, List, [], ◌∷◌, length, set, Some, None, Ok, Err, Option, sym, refl, ap, ◌∙◌}
use Rattle.std.proofs.lemmas.List.{length-set}
use Rattle.board.specs.declared.faults.Fault.{Fault}
use Rattle.board.specs.declared.tasks.Task.{Task}
use Rattle.board.specs.Processors.{ProcessorFigures}
use Rattle.board.specs.Tasks.{FiguresOfTask}
use Rattle.tally.specs.Tally.{Tally, retire}
use Rattle.tally.specs.Refusals.{first, no_such_port, port_free, refused}
use Rattle.tally.specs.Boards.{each_task}
use Rattle.tally.specs.Books.{book_figures, after}
use Rattle.tally.proofs.Refusing.{accepted_changes}
use Rattle.book.specs.Tasks.{figures_of, taken_place}
use Rattle.book.proofs.Placing.{free_lines, place_error, place_good, figures_set, each_set}

module _ (p : ProcessorFigures) (capacity clock : ℕ) (raw : List (Option Task)) (port : ℕ) where
  abbrev tally : List (Option Task) → Tally
  tally ts = record { capacity = capacity; clock = clock; tasks = figures_of ts }

  pub by_port : (f : Fault) → Err f ≡ taken_place raw port → refused p (tally raw) (retire port) ≡ Some f
  by_port f e = sym (free_lines raw port) ∙ place_error (port - 1) (first (no_such_port port ∷ port_free raw port ∷ [])) f e

  module _ (place : ℕ) (found : Ok place ≡ taken_place raw port) where
    good : (place ≡ port - 1) × (first (no_such_port port ∷ port_free raw port ∷ []) ≡ None)
    good = place_good (port - 1) (first (no_such_port port ∷ port_free raw port ∷ [])) place found

    pub taken_off : refused p (tally raw) (retire port) ≡ None
    taken_off = sym (free_lines raw port) ∙ good.1

    module _ (left : List (Option Task)) (is : left ≡ set raw place None) where
      figures_left : figures_of left ≡ set (figures_of raw) place None
      figures_left = ap figures_of is ∙ figures_set raw place None

      pub book_left : book_figures p (tally left) ≡ after (book_figures p (tally raw)) (retire port)
      book_left =
          ap (λ ts. book_figures p (record { capacity = capacity; clock = clock; tasks = ts })) (figures_left ∙ ap (λ n. set (figures_of raw) n None) good.0)
          ∙ accepted_changes (book_figures p (tally raw)) (retire port) taken_off

      pub ports_left : length left ≡ length raw
      ports_left = ap length is ∙ length-set raw place None

      pub each_left : (test : FiguresOfTask → Bool) → each_task test (figures_of raw) ≡ true → each_task test (figures_of left) ≡ true
      each_left test fit = ap (each_task test) figures_left ∙ each_set test (figures_of raw) place None fit refl
