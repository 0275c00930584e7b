-- The rows of the tasks of the first ports, and of one port more.
use Rattle.std.proofs.Common.{◌≡◌, ℕ, ◌+◌, ◌<◌, ◌≤◌, true, List, [], ◌∷◌, ◌++◌, map, length, get_or, take, Some, None, Option, sym, refl, ap, ◌∙◌, subst, arith}
use Rattle.std.specs.Option.{option_map}
use Rattle.std.proofs.lemmas.List.{get_or-map, length-map, take_more, length-take-le, append-nil}
use Rattle.std.proofs.lemmas.Bool.{cond-true}
use Rattle.board.specs.declared.measures.Measure.{Measure}
use Rattle.board.specs.declared.tasks.Task.{Task}
use Rattle.board.specs.Processors.{ProcessorFigures}
use Rattle.board.specs.Tasks.{FiguresOfTask}
use Rattle.board.specs.Measures.{belongs, offer, offer_if}
use Rattle.board.specs.Views.{task_figures}
use Rattle.plans.specs.Choices.{In}
use Rattle.plans.specs.Boards.{Standing, standing}
use Rattle.tally.proofs.Standings.{in_standing, standing_append, port_standing, few_standing}
use Rattle.book.specs.Tasks.{figures_of}

-- a task that belongs is offered what it is offered
pub all_offers : (p : ProcessorFigures) (t : FiguresOfTask) (h : ℕ) → belongs p t h ≡ true → (ns : List ℕ) → map (offer_if p t h) ns ≡ map (offer p t h) ns
all_offers p t h e [] = refl
all_offers p t h e (n ∷ ns) =
    ap (λ (o : Option Measure). o ∷ map (offer_if p t h) ns) (cond-true (belongs p t h) (offer p t h n) None e) ∙ ap (λ (os : List (Option Measure)). offer p t h n ∷ os) (all_offers p t h e ns)

module _ (tasks : List (Option Task)) (i : ℕ) (o : Option Task) (within : i < length tasks) (is : o ≡ get_or tasks i o) where
  abbrev ts : List (Option FiguresOfTask)
  ts = figures_of tasks

  read : get_or ts i None ≡ option_map task_figures o
  read = get_or-map (option_map task_figures) tasks i o None within ∙ ap (option_map task_figures) (sym is)

  long : i < length ts
  long = omega (arith, length-map tasks (option_map task_figures))

  one_more : standing 1 (take (i + 1) ts) ≡ standing 1 (take i ts) ++ standing (i + 1) (option_map task_figures o ∷ [])
  one_more =
      let n : 1 + length (take i ts) ≡ i + 1 = omega (arith, length-take-le i ts (omega (arith, long))) in
      ap (standing 1) (take_more ts i None long) ∙ standing_append (take i ts) (get_or ts i None ∷ []) 1
      ∙ ap (λ m. standing 1 (take i ts) ++ standing m (get_or ts i None ∷ [])) n ∙ ap (λ x. standing 1 (take i ts) ++ standing (i + 1) (x ∷ [])) read

  pub none_more : o ≡ None → standing 1 (take (i + 1) ts) ≡ standing 1 (take i ts)
  none_more e = one_more ∙ ap (λ (x : Option Task). standing 1 (take i ts) ++ standing (i + 1) (option_map task_figures x ∷ [])) e ∙ append-nil (standing 1 (take i ts))

  module _ (t : Task) (e : o ≡ Some t) where
    abbrev pub here : Standing
    here = record { port = i + 1; task = task_figures t }

    pub some_more : standing 1 (take (i + 1) ts) ≡ standing 1 (take i ts) ++ (here ∷ [])
    some_more = one_more ∙ ap (λ (x : Option Task). standing 1 (take i ts) ++ standing (i + 1) (option_map task_figures x ∷ [])) e

    pub stands_here : In here (standing 1 ts)
    stands_here =
        let q : 1 + i ≡ i + 1 = omega arith in
        subst (λ n. In (record { port = n; task = task_figures t }) (standing 1 ts)) q (in_standing ts 1 i (task_figures t) (read ∙ ap (option_map task_figures) e))

  taken_first : length (take i ts) ≡ i
  taken_first = length-take-le i ts (omega (arith, long))

  pub few_before : length (standing 1 (take i ts)) ≤ i
  few_before = omega (arith, few_standing (take i ts) 1, taken_first)

  pub apart_before : (s : Standing) → In s (standing 1 (take i ts)) → s.port ≡ i + 1 → ⊥
  apart_before s h e = let r = port_standing (take i ts) 1 s h in omega (arith, taken_first)
