-- The kinds of this crate.
--   energy        an entry is the measure's energy; entries are summed, as far as a sum fits 64 bits
--   peak          an entry is the measure's draw; addition takes the larger
--   paired s t    a pair of s and t: entries and sums part by part, the first compared before the second
use Rattle.std.specs.Prelude.{ℕ, ◌+◌, ◌^◌, max, true, not, ◌&&◌, ◌||◌, nat_le, nat_lt}
use Rattle.cost.specs.Kinds.{Meaning}
use Rattle.cost.specs.declared.energies.Energy.{Energy}
use Rattle.cost.specs.declared.peaks.Peak.{Peak}
use Rattle.cost.specs.declared.pairs.Pair.{Pair}

abbrev pub of_energy : ℕ → Energy
of_energy n = record { picojoules = n }

abbrev pub energy : Meaning Energy
energy = record {
  prices = λ m. true;
  worth = λ m. of_energy m.energy;
  none = of_energy 0;
  adds = λ a b. nat_lt (a.picojoules + b.picojoules) (2 ^ 64);
  plus = λ a b. of_energy (a.picojoules + b.picojoules);
  under = λ a b. nat_le a.picojoules b.picojoules;
}

abbrev pub of_draw : ℕ → Peak
of_draw n = record { microwatts = n }

abbrev pub peak : Meaning Peak
peak = record {
  prices = λ m. true;
  worth = λ m. of_draw m.draw;
  none = of_draw 0;
  adds = λ a b. true;
  plus = λ a b. of_draw (max a.microwatts b.microwatts);
  under = λ a b. nat_le a.microwatts b.microwatts;
}

abbrev pub paired : {A B : Type 0} → Meaning A → Meaning B → Meaning (Pair A B)
paired s t = record {
  prices = λ m. s.prices m && t.prices m;
  worth = λ m. record { first = s.worth m; second = t.worth m };
  none = record { first = s.none; second = t.none };
  adds = λ p q. s.adds p.first q.first && t.adds p.second q.second;
  plus = λ p q. record { first = s.plus p.first q.first; second = t.plus p.second q.second };
  under = λ p q. s.under p.first q.first && (not (s.under q.first p.first) || t.under p.second q.second);
}
