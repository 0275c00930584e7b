use Rattle.std.proofs.Common.{◌≡◌, ◌++◌, take, drop}
use Rattle.plantext.specs.Answers.{level_signs}
use Rattle.plantext.proofs.answers.port_signs.Given as goal

abbrev pub invariant-loop-sign : goal.invariant-loop-sign
invariant-loop-sign l = l.sign-items ≡ level_signs (take l.sign-index l.levels) ++ drop l.sign-index l.levels
