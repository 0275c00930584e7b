-- Lists in another order.
use Rattle.std.proofs.Common.{◌≡◌, Bool, true, ◌&&◌, List, [], ◌∷◌}
use Rattle.std.specs.List.{list_all}
use Rattle.std.proofs.lemmas.Bool.{and_parts, and_from}
use Rattle.cost.specs.Sums.{Reordered, no_items, same_first, first_two, by_way_of}

module _ {X : Type 0} where
  pub reordered_self : (xs : List X) → Reordered xs xs
  reordered_self [] = no_items
  reordered_self (x ∷ xs) = same_first (reordered_self xs)

  -- a test that each item passes
  pub reordered_pass : (test : X → Bool) {xs ys : List X} → Reordered xs ys → list_all test xs ≡ true → list_all test ys ≡ true
  reordered_pass test no_items h = h
  reordered_pass test (same_first {x = x} {xs = xs} r) h =
      let parts = and_parts (test x) (list_all test xs) h in
      and_from _ _ parts.0 (reordered_pass test r parts.1)
  reordered_pass test (first_two {x = x} {y = y} {xs = xs}) h =
      let one = and_parts (test x) (test y && list_all test xs) h in
      let two = and_parts (test y) (list_all test xs) one.1 in
      and_from _ _ two.0 (and_from _ _ one.0 two.1)
  reordered_pass test (by_way_of r s) h = reordered_pass test s (reordered_pass test r h)
