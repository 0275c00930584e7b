-- A processor by its figures, and which figures are admissible.
--   ProcessorFigures     the levels from level 0 on, and the standby power of each device, in mW
--   between low high n   n is low or more, and high or less
--   level_fits l         a speed of 1 to 4,000 MHz and a power of 1 to 60,000 mW
--   LevelWithin l        the same, as facts
--   below l m            m has more speed and more power than l
--   rising ls            each level is below the next
--   processor_fits p     1 to 8 levels, each in range, rising; 0 to 8 devices of 0 to 5,000 mW
--   processor_made p     the processor, or the fault of figures that do not fit
use Rattle.std.specs.Prelude.{ℕ, ◌≤◌, Bool, true, cond, ◌&&◌, List, [], ◌∷◌, length, Ok, Err, Result, nat_le, nat_lt}
use Rattle.std.specs.List.{list_all}
use Rattle.board.specs.declared.faults.Fault.{Fault}
use Rattle.board.specs.declared.faults.Fault.TheVariants.{BadProcessor}
use Rattle.board.specs.declared.levels.Level.{Level}

pub record ProcessorFigures : Type 0 where
  pub levels : List Level
  pub standby : List ℕ

abbrev pub between : ℕ → ℕ → ℕ → Bool
between low high n = nat_le low n && nat_le n high

abbrev pub level_fits : Level → Bool
level_fits l = between 1 4000 l.mhz && between 1 60000 l.mw

pub record LevelWithin (l : Level) : Type 0 where
  pub runs : 1 ≤ l.mhz
  pub fast : l.mhz ≤ 4000
  pub strong : l.mw ≤ 60000

abbrev pub below : Level → Level → Bool
below l m = nat_lt l.mhz m.mhz && nat_lt l.mw m.mw

abbrev pub rising : List Level → Bool
rising [] = true
rising (l ∷ []) = true
rising (l ∷ (m ∷ ms)) = below l m && rising (m ∷ ms)

abbrev pub levels_fit : List Level → Bool
levels_fit ls = between 1 8 (length ls) && (list_all level_fits ls && rising ls)

abbrev pub standby_fits : List ℕ → Bool
standby_fits ws = nat_le (length ws) 8 && list_all (λ w. nat_le w 5000) ws

abbrev pub processor_fits : ProcessorFigures → Bool
processor_fits p = levels_fit p.levels && standby_fits p.standby

abbrev pub processor_made : ProcessorFigures → Result ProcessorFigures Fault
processor_made p = cond (processor_fits p) (Ok p) (Err BadProcessor)
