use Rattle.std.proofs.Common.{map, ap, ◌∙◌}
use Rattle.plans.specs.Plans.{laid, level_byte}
use Rattle.fronts.proofs.back.tell_levels.Goals as goal

pub returns : goal.returns
returns g c f = c.write_levels.ensures ∙ ap (λ picks. laid 0 (map level_byte picks) c.args.levels.now) c.way_back-picks.ensures
