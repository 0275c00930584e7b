-- The laws of the kind made up.
use Rattle.std.proofs.Common.{ap, arith, le→leb}
use Rattle.std.specs.Prelude.{ℕ, ◌≤◌, Bool, true, false, cond, nat_lt}
use Rattle.board.proofs.Bounds.{draw_bound}
use Rattle.cost.specs.Kinds.{Sum, nothing, entry, both, Laws}
use Rattle.cost.specs.Singles.{number_either, number_same, number_chain, sum_grows}
use Rattle.kindtest.specs.Heat.{hot, of_tasks}
use Rattle.kindtest.specs.declared.Hot.{Hot}

one_at_most : (b : Bool) → cond b 1 0 ≤ 1
one_at_most true = omega arith
one_at_most false = omega arith

-- of n entries at most n are hot
summed : {n : ℕ} {c : Hot} → Sum hot n c → c.tasks ≤ n
summed nothing = omega arith
summed (entry {m} o) = one_at_most (nat_lt 10000000 m.draw)
summed (both s t) = omega (arith, summed s, summed t)

pub hot_laws : Laws hot
hot_laws = record {
  priced = λ m o. le→leb _ _ (draw_bound m o);
  added = λ a b _ _ t. le→leb _ _ (omega (arith, summed t.sum, t.few));
  either = λ a b _ _. number_either a.tasks b.tasks;
  same = λ a b _ _ p q. ap of_tasks (number_same a.tasks b.tasks p q);
  chain = λ a b c _ _ _. number_chain a.tasks b.tasks c.tasks;
  assoc = λ a b c _ _ _ _ _ _ _. ap of_tasks (omega arith);
  comm = λ a b _ _ _ _. ap of_tasks (omega arith);
  idle = λ a _. ap of_tasks (omega arith);
  grows = λ a b c _ _ _ _ _. sum_grows a.tasks b.tasks c.tasks;
}
