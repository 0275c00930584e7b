-- What holds of each level of a processor that was not refused.
use Rattle.std.proofs.Common.{◌≡◌, ℕ, suc, ◌-◌, ◌<◌, ◌≤◌, true, List, [], ◌∷◌, length, get_or, Some, refl, ap, ◌∙◌, subst, arith}
use Rattle.std.specs.List.{list_all, slice_get}
use Rattle.std.proofs.lemmas.Option.{slice_get_within, get_or_from_slice_get}
use Rattle.std.proofs.lemmas.Bool.{leb-true, and_parts}
use Rattle.board.specs.declared.levels.Level.{Level}
use Rattle.board.specs.Processors.{level_fits, rising, levels_fit, between, LevelWithin}
use Rattle.board.specs.Tasks.{top_speed}
use Rattle.board.proofs.Passing.{pass_at}

pub bounds : (low high n : ℕ) → between low high n ≡ true → (low ≤ n) × (n ≤ high)
bounds low high n e = let p = and_parts _ _ e in (leb-true low n p.0, leb-true n high p.1)

pub level_within : (ls : List Level) (i : ℕ) (d : Level) → levels_fit ls ≡ true → i < length ls → LevelWithin (get_or ls i d)
level_within ls i d fit h =
    let l = get_or ls i d in
    let each = (and_parts (list_all level_fits ls) (rising ls) (and_parts (between 1 8 (length ls)) _ fit).1).0 in
    let at = and_parts (between 1 4000 l.mhz) (between 1 60000 l.mw) (pass_at level_fits ls i d each h) in
    record { runs = (bounds 1 4000 l.mhz at.0).0; fast = (bounds 1 4000 l.mhz at.0).1; strong = (bounds 1 60000 l.mw at.1).1 }

pub some_level : (ls : List Level) → levels_fit ls ≡ true → 1 ≤ length ls
some_level ls fit = (bounds 1 8 (length ls) (and_parts (between 1 8 (length ls)) _ fit).0).0

pub top_last : (ls : List Level) (d : Level) → 1 ≤ length ls → top_speed ls ≡ (get_or ls (length ls - 1) d).mhz
top_last [] d h = absurd (omega arith)
top_last (l ∷ []) d h = refl
top_last (l ∷ (m ∷ ms)) d h =
    let e : suc (length (m ∷ ms) - 1) ≡ length (l ∷ (m ∷ ms)) - 1 = omega arith in
    top_last (m ∷ ms) d (omega arith) ∙ ap (λ n. (get_or (l ∷ (m ∷ ms)) n d).mhz) e

pub level_found : (ls : List Level) (n : ℕ) (l : Level) → levels_fit ls ≡ true → slice_get ls n ≡ Some l → LevelWithin l
level_found ls n l fit at = subst (λ x. LevelWithin x) (get_or_from_slice_get ls n l l at) (level_within ls n l fit (slice_get_within ls n l at))
