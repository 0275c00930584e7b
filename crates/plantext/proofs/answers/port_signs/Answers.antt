use Rattle.std.proofs.Common.{ℕ, ◌<◌, length, get_or, arith, rules}
use Rattle.std.proofs.lemmas.List.{get_or_default}
use Rattle.std.proofs.lemmas.List.Edits.{map_over_more}
use Rattle.plantext.specs.Answers.{level_of, level_sign}
use Rattle.plantext.proofs.answers.port_signs.Goals as goal

pub loop-sign-preserved : goal.loop-sign-preserved
loop-sign-preserved c =
    let signs = c.loop-sign.sign-items in
    let port = c.loop-sign.sign-index in
    let here : port < length signs = omega arith in
    let found = get_or signs port 0 in
    let next = map_over_more (λ (b : ℕ). level_sign (level_of b)) c.args.levels.now signs port found (omega arith) c.loop-sign.invariant (get_or_default signs port 0 found here) in
    search rules
