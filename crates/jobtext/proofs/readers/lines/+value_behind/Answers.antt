use Rattle.std.proofs.Common.{◌-◌, length, take, drop, sym, ap, ◌∙◌, arith, ltb-true}
use Rattle.std.proofs.lemmas.List.{take_rest}
use Rattle.jobtext.specs.Lines.{behind}
use Rattle.jobtext.proofs.Cutting.{behind_none, behind_more}
use Rattle.jobtext.proofs.readers.lines.+value_behind.Goals as goal

pub returns-in-empty : goal.returns-in-empty
returns-in-empty t c = behind_none c.args.key.now c.args.line.now (omega (arith, ltb-true))

pub returns-in-len1-up-line : goal.returns-in-len1-up-line
returns-in-len1-up-line t c =
    let key = c.args.key.now in
    let line = c.args.line.now in
    c.value_behind.ensures
    ∙ ap (λ k. behind k (take (length line - 1) (drop 1 line))) (take_rest key 1)
    ∙ ap (behind (drop 1 key)) (take_rest line 1)
    ∙ sym (behind_more key line (sym c.begin_alike.ensures ∙ c.if-begin_alike.true))
