-- A value for each of eight levels, as a list.
--   by_level b    the values from level 0 on
--   eight x       the same value for each
use Rattle.std.specs.Prelude.{List, [], ◌∷◌}
use Rattle.fronts.specs.declared.by_level.ByLevel.{ByLevel}

abbrev pub by_level : {X : Type 0} → ByLevel X → List X
by_level b = b.zero ∷ b.one ∷ b.two ∷ b.three ∷ b.four ∷ b.five ∷ b.six ∷ b.seven ∷ []

abbrev pub eight : {X : Type 0} → X → List X
eight x = x ∷ x ∷ x ∷ x ∷ x ∷ x ∷ x ∷ x ∷ []
