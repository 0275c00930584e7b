use Rattle.std.proofs.Common.{◌≡◌, ◌-◌, true, leb, length, get_or, sym, ap, ◌∙◌, subst, arith}
use Rattle.board.specs.declared.levels.Level.{Level}
use Rattle.board.specs.Processors.{levels_fit}
use Rattle.board.specs.Tasks.{busy_time, top_speed}
use Rattle.board.specs.Views.{processor_figures}
use Rattle.board.proofs.Leveling.{level_within, some_level, top_last}
use Rattle.board.proofs.tasks.makes.quick_enough.Goals as goal

pub busy_time-requires : goal.busy_time-requires
busy_time-requires c =
    let ls = c.levels-levels.result.now in
    let fit : levels_fit ls ≡ true = subst (λ xs. levels_fit xs ≡ true) (sym c.levels-levels.ensures) c.args.processor.now.levels_fit in
    let count = some_level ls fit in
    let top = level_within ls (length ls - 1) _ fit (omega arith) in
    (top.runs, (top.fast, c.requires))

pub returns : goal.returns
returns c =
    let ls = c.levels-levels.result.now in
    let fit : levels_fit ls ≡ true = subst (λ xs. levels_fit xs ≡ true) (sym c.levels-levels.ensures) c.args.processor.now.levels_fit in
    let d : Level = record { mhz = 0; mw = 0 } in
    let top : (get_or ls (length ls - 1) d).mhz ≡ top_speed (processor_figures c.args.processor.now).levels = sym (top_last ls d (some_level ls fit)) ∙ ap top_speed c.levels-levels.ensures in
    ap (λ t. leb t c.time_left.result) (c.busy_time.ensures ∙ ap (busy_time c.args.figures.cycles) top) ∙ ap (leb _) c.time_left.ensures
