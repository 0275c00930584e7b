-- How many items a short list holds.
use Rattle.std.proofs.Common.{ℕ, ◌≤◌, length, arith}
use Rattle.std.proofs.lemmas.List.{length-take}
use Rattle.shortlist.specs.declared.lists.ShortList.{ShortList}
use Rattle.shortlist.specs.Lists.{listed}

pub listed_few : {T : Type 0} {n : ℕ} (l : ShortList T n) → length (listed l) ≤ n
listed_few l = omega (arith, length-take l.count l.places, l.few)
