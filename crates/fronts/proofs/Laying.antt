-- A new stretch behind the first places of a list: what a write does to it, and what a step on the rest of a list does to the whole. Over any element type.
use Rattle.std.proofs.Common.{◌≡◌, ℕ, ◌+◌, ◌-◌, ◌<◌, ◌≤◌, List, [], ◌∷◌, ◌++◌, reverse, length, get_or, take, drop, set, sym, ap, ◌∙◌, add-zero, add_assoc, arith, take-add}
use mathlib.Core.List.{reverse-cons}
use borrow.Rule.Slice.PartMut.{put_mid}
use Rattle.std.proofs.lemmas.List.{append_assoc, append-nil, drop_all, drop_at, drop-drop, drop_more, get_or_at, length-append, length-drop, length-reverse, length-take-le, set_at, take-append-drop, take-append-le, take_at}
use Rattle.plans.specs.Plans.{laid}

module _ {X : Type 0} (old : List X) (count : ℕ) where
  pub laid_none : old ≡ laid count [] old
  laid_none = sym (ap (λ n. take count old ++ drop n old) (add-zero count) ∙ take-append-drop count old)

  module _ (kept : List X) (within : count ≤ length old) where
    length_front : length (take count old ++ reverse kept) ≡ count + length kept
    length_front = length-append (take count old) (reverse kept) ∙ ap (λ n. n + length (reverse kept)) (length-take-le count old within) ∙ ap (λ n. count + n) (length-reverse kept)

    split : (q : X) → laid count (reverse (q ∷ kept)) old ≡ (take count old ++ reverse kept) ++ (q ∷ drop (count + length (reverse (q ∷ kept))) old)
    split q =
        ap (λ new. take count old ++ (new ++ drop (count + length (reverse (q ∷ kept))) old)) (reverse-cons q kept)
        ∙ ap (λ r. take count old ++ r) (append_assoc (reverse kept) (q ∷ []) (drop (count + length (reverse (q ∷ kept))) old))
        ∙ sym (append_assoc (take count old) (reverse kept) (q ∷ drop (count + length (reverse (q ∷ kept))) old))

    pub laid_last : (q d : X) → get_or (laid count (reverse (q ∷ kept)) old) (count + length kept) d ≡ q
    laid_last q d = ap (λ l. get_or l (count + length kept) d) (split q) ∙ get_or_at (take count old ++ reverse kept) q (drop (count + length (reverse (q ∷ kept))) old) d (count + length kept) length_front

    -- a write at the last place
    pub laid_replace : (q x : X) → set (laid count (reverse (q ∷ kept)) old) (count + length kept) x ≡ laid count (reverse (x ∷ kept)) old
    laid_replace q x =
        ap (λ l. set l (count + length kept) x) (split q)
        ∙ set_at (take count old ++ reverse kept) q (drop (count + length (reverse (q ∷ kept))) old) x (count + length kept) length_front
        ∙ ap (λ n. (take count old ++ reverse kept) ++ (x ∷ drop (count + n) old)) (length-reverse (q ∷ kept) ∙ sym (length-reverse (x ∷ kept)))
        ∙ sym (split x)

    -- a write behind the last place
    pub laid_push : (x : X) → count + length kept < length old → set (laid count (reverse kept) old) (count + length kept) x ≡ laid count (reverse (x ∷ kept)) old
    laid_push x room =
        let n = count + length kept in
        let y = get_or old n x in
        let behind : drop (count + length (reverse kept)) old ≡ y ∷ drop (n + 1) old = ap (λ m. drop (count + m) old) (length-reverse kept) ∙ drop_more old n x room in
        ap (λ r. set (take count old ++ (reverse kept ++ r)) n x) behind
        ∙ ap (λ l. set l n x) (sym (append_assoc (take count old) (reverse kept) (y ∷ drop (n + 1) old)))
        ∙ set_at (take count old ++ reverse kept) y (drop (n + 1) old) x n length_front
        ∙ ap (λ m. (take count old ++ reverse kept) ++ (x ∷ drop m old)) (omega (arith, length-reverse (x ∷ kept)))
        ∙ sym (split x)

  module _ (new : List X) (fits : count + length new ≤ length old) where
    pub take_laid : take count (laid count new old) ≡ take count old
    take_laid = take_at (take count old) (new ++ drop (count + length new) old) count (length-take-le count old (omega arith))

    pub length_laid : length (laid count new old) ≡ length old
    length_laid = simp (length-append, length-drop) (omega (arith, length-take-le count old (omega arith)))

-- what the whole list holds after a step on `&mut list[start..]`, which left ys
module _ {X : Type 0} (xs ys : List X) (start count : ℕ) where
  pub laid_part : (new : List X) → ys ≡ laid count new (drop start xs) → put_mid start (length xs - start) xs ys ≡ laid (start + count) new xs
  laid_part new is =
      let n = count + length new in
      let k = length xs - start in
      let last : length (drop start xs) ≤ k = simp length-drop (omega arith) in
      ap (λ p. put_mid start k xs p) is
      ∙ ap (λ r. take start xs ++ (laid count new (drop start xs) ++ r)) (drop_all k (drop start xs) last)
      ∙ ap (λ r. take start xs ++ r) (append-nil (laid count new (drop start xs)))
      ∙ sym (append_assoc (take start xs) (take count (drop start xs)) (new ++ drop n (drop start xs)))
      ∙ ap (λ p. p ++ (new ++ drop n (drop start xs))) (sym (take-add start count xs))
      ∙ ap (λ r. take (start + count) xs ++ (new ++ r)) (drop-drop n start xs ∙ ap (λ m. drop m xs) (sym (add_assoc start count (length new))))

  pub take_part : start + count ≤ length xs → length ys ≡ length (drop start xs) → take count ys ≡ take count (drop start xs) → take (start + count) (put_mid start (length xs - start) xs ys) ≡ take (start + count) xs
  take_part within same is =
      let after = ys ++ drop (length xs - start) (drop start xs) in
      let long : length (take start xs) ≡ start = length-take-le start xs (omega arith) in
      take-add start count (take start xs ++ after)
      ∙ ap (λ l. l ++ take count (drop start (take start xs ++ after))) (take_at (take start xs) after start long)
      ∙ ap (λ l. take start xs ++ take count l) (drop_at (take start xs) after start long)
      ∙ ap (λ l. take start xs ++ l) (take-append-le count ys (drop (length xs - start) (drop start xs)) (omega (arith, same, length-drop start xs)) ∙ is)
      ∙ sym (take-add start count xs)
