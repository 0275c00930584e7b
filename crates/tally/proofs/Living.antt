-- A life of one call more.
use Rattle.std.proofs.Common.{◌≡◌, ℕ, ◌+◌, ◌<◌, ◌≤◌, List, map, length, get_or, take, drop, sym, refl, ap, ◌∙◌, subst, arith}
use Rattle.std.proofs.lemmas.List.{length-map, get_or-map, take_all, drop_all, at_drop_more}
use Rattle.std.proofs.lemmas.List.Sums.{fold_more}
use Rattle.board.specs.Processors.{ProcessorFigures}
use Rattle.cost.specs.Kinds.{Meaning}
use Rattle.plans.specs.Choices.{Row}
use Rattle.tally.specs.Tally.{new_tally, Call}
use Rattle.tally.specs.Steps.{step, life}
use Rattle.tally.specs.Books.{BookFigures, book_figures, after}
use Rattle.tally.specs.Lent.{Lent, LentCall, lent_after, Leaves}

module _ {X : Type 0} (p : ProcessorFigures) (call_of : X → Call) (xs : List X) (i : ℕ) where
  pub life_more : (d : X) (b : BookFigures) → i < length xs → b ≡ book_figures p (life p (take i (map call_of xs))) → after b (call_of (get_or xs i d)) ≡ book_figures p (life p (take (i + 1) (map call_of xs)))
  life_more d b h e =
      ap (λ x. after x (call_of (get_or xs i d))) e
      ∙ ap (λ c. book_figures p (step p (life p (take i (map call_of xs))) c)) (sym (get_or-map call_of xs i d (call_of d) h))
      ∙ ap (book_figures p) (sym (fold_more (step p) new_tally (map call_of xs) i (call_of d) (omega (arith, length-map xs call_of))))

  pub life_all : (b : BookFigures) → length xs ≤ i → b ≡ book_figures p (life p (take i (map call_of xs))) → b ≡ book_figures p (life p (map call_of xs))
  life_all b h e = e ∙ ap (λ cs. book_figures p (life p cs)) (take_all i (map call_of xs) (omega (arith, length-map xs call_of)))

-- what a book that follows the calls leaves of what is lent to it, from one of them on
module _ {C : Type 0} (k : Meaning C) (rows_of : BookFigures → List (Row C)) {X : Type 0} (call_of : X → LentCall) (xs : List X) (i : ℕ) (b : BookFigures) (found : Lent C) where
  pub leaves_more : (d : X) (b' : BookFigures) (next : Lent C) → i < length xs → b' ≡ after b (call_of (get_or xs i d)).call → next ≡ lent_after k rows_of b (call_of (get_or xs i d)) found next → length next.list ≡ length found.list → (left : Lent C) → Leaves k rows_of b' (map call_of (drop (i + 1) xs)) next left → Leaves k rows_of b (map call_of (drop i xs)) found left
  leaves_more d b' next h book e size left rest =
      subst (λ ys. Leaves k rows_of b (map call_of ys) found left) (sym (at_drop_more (λ ys. ys) xs i d h)) (next, e, size, subst (λ x. Leaves k rows_of x (map call_of (drop (i + 1) xs)) next left) book rest)

  pub leaves_all : length xs ≤ i → Leaves k rows_of b (map call_of (drop i xs)) found found
  leaves_all h = subst (λ ys. Leaves k rows_of b (map call_of ys) found found) (sym (drop_all i xs h)) refl
