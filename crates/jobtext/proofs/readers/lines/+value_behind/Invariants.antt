use Rattle.std.proofs.Common.{length}
use Rattle.jobtext.proofs.readers.lines.+value_behind.Given as goal

abbrev pub decreases-value_behind : goal.decreases-value_behind
decreases-value_behind l = length l.key.now
