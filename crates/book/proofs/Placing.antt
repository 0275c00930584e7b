-- Places of ports, and what it takes to write to them.
use Rattle.std.proofs.Common.{◌≡◌, ℕ, zero, suc, ◌-◌, ◌<◌, Bool, true, false, cond, not, leb, List, [], ◌∷◌, get_or, set, is_some, Some, None, Ok, Err, Option, sym, refl, ap, ◌∙◌, arith}
use Rattle.std.specs.Option.{option_map}
use Rattle.std.proofs.lemmas.List.{map-set}
use Rattle.std.proofs.lemmas.Bool.{and_parts, and_from, leb-true}
use Rattle.board.specs.declared.faults.Fault.{Fault}
use Rattle.board.specs.declared.faults.Fault.TheVariants.{NoSuchPort, PortTaken, PortFree}
use Rattle.board.specs.declared.tasks.Task.{Task}
use Rattle.board.specs.Tasks.{FiguresOfTask}
use Rattle.board.specs.Views.{task_figures}
use Rattle.tally.specs.Refusals.{first, a_port, no_such_port, port_taken, port_free}
use Rattle.tally.specs.Boards.{on_task, each_task}
use Rattle.book.specs.Tasks.{figures_of, place_unless, taken_place}

pub figures_at : (ts : List (Option Task)) (i : ℕ) → get_or (figures_of ts) i None ≡ option_map task_figures (get_or ts i None)
figures_at [] i = refl
figures_at (t ∷ ts) zero = refl
figures_at (t ∷ ts) (suc i) = figures_at ts i

some_mapped : (o : Option Task) → is_some o ≡ is_some (option_map task_figures o)
some_mapped None = refl
some_mapped (Some t) = refl

stands : (ts : List (Option Task)) (i : ℕ) → is_some (get_or ts i None) ≡ is_some (get_or (figures_of ts) i None)
stands ts i = some_mapped (get_or ts i None) ∙ ap is_some (sym (figures_at ts i))

module _ (ts : List (Option Task)) (port : ℕ) where
  pub taken_lines : first (no_such_port port ∷ port_taken ts port ∷ []) ≡ first (no_such_port port ∷ port_taken (figures_of ts) port ∷ [])
  taken_lines = ap (λ b. cond (not (a_port port)) (Some (NoSuchPort port)) (cond b (Some (PortTaken port)) None)) (stands ts (port - 1))

  pub free_lines : first (no_such_port port ∷ port_free ts port ∷ []) ≡ first (no_such_port port ∷ port_free (figures_of ts) port ∷ [])
  free_lines = ap (λ b. cond (not (a_port port)) (Some (NoSuchPort port)) (cond (not b) (Some (PortFree port)) None)) (stands ts (port - 1))

pub place_error : (n : ℕ) (o : Option Fault) (f : Fault) → Err f ≡ place_unless n o → o ≡ Some f
place_error n None f e = absurd (let z : ◌≡◌ {A = ℕ} 0 1 = cc in omega arith)
place_error n (Some g) f e = cc

pub place_good : (n : ℕ) (o : Option Fault) (m : ℕ) → Ok m ≡ place_unless n o → (m ≡ n) × (o ≡ None)
place_good n None m e = (cc, refl)
place_good n (Some g) m e = absurd (let z : ◌≡◌ {A = ℕ} 0 1 = cc in omega arith)

-- a place is one of 48
pub place_within : (ts : List (Option Task)) (port place : ℕ) → Ok place ≡ taken_place ts port → place < 48
place_within ts port place e =
    let good = place_good (port - 1) (first (no_such_port port ∷ port_free ts port ∷ [])) place e in
    let range = and_parts (leb 1 port) (leb port 48) (in_range (a_port port) good.1) in
    omega (arith, good.0, leb-true 1 port range.0, leb-true port 48 range.1)
  where
    in_range : (b : Bool) → cond (not b) (Some (NoSuchPort port)) (first (port_free ts port ∷ [])) ≡ None → b ≡ true
    in_range true r = refl
    in_range false r = absurd (let z : ◌≡◌ {A = ℕ} 0 1 = cc in omega arith)

-- the figures after a write
pub figures_set : (ts : List (Option Task)) (i : ℕ) (o : Option Task) → figures_of (set ts i o) ≡ set (figures_of ts) i (option_map task_figures o)
figures_set ts i o = map-set (option_map task_figures) ts i o

pub each_set : (test : FiguresOfTask → Bool) (ts : List (Option FiguresOfTask)) (i : ℕ) (o : Option FiguresOfTask) → each_task test ts ≡ true → on_task test o ≡ true → each_task test (set ts i o) ≡ true
each_set test [] i o fit e = refl
each_set test (t ∷ ts) zero o fit e = and_from _ _ e (and_parts (on_task test t) (each_task test ts) fit).1
each_set test (t ∷ ts) (suc i) o fit e = let parts = and_parts (on_task test t) (each_task test ts) fit in and_from _ _ parts.0 (each_set test ts i o parts.1 e)
