use Rattle.std.proofs.Common.{rules}
use Rattle.std.proofs.lemmas.List.Sorted.{answers_always}
use Rattle.board.specs.Processors.{below}
use Rattle.board.proofs.Rising.{rising_by_neighbours}
use Rattle.board.proofs.processors.makes.each_level_rises.Goals as goal

pub returns : goal.returns
returns c = rising_by_neighbours c.args.levels.now c.is_sorted_by.result (c.is_sorted_by.ensures.cases below (answers_always _ _ _ (λ f a r f' k. search rules)))
