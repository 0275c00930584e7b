-- A kind made up to try the interface.
--   hot    an entry is 1 if the measure draws more than 10 W, and 0 if not, and a draw above 100 W is declined; entries are summed, as far as a sum fits 8 bits
use Rattle.std.specs.Prelude.{ℕ, ◌+◌, cond, nat_le, nat_lt}
use Rattle.cost.specs.Kinds.{Meaning}
use Rattle.kindtest.specs.declared.Hot.{Hot}

abbrev pub of_tasks : ℕ → Hot
of_tasks n = record { tasks = n }

abbrev pub hot : Meaning Hot
hot = record {
  prices = λ m. nat_le m.draw 100000000;
  worth = λ m. of_tasks (cond (nat_lt 10000000 m.draw) 1 0);
  none = of_tasks 0;
  adds = λ a b. nat_lt (a.tasks + b.tasks) 256;
  plus = λ a b. of_tasks (a.tasks + b.tasks);
  under = λ a b. nat_le a.tasks b.tasks;
}
