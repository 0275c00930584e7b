-- What the list step asks of a row of a board.
use Rattle.std.proofs.Common.{◌≡◌, ℕ, zero, suc, ◌+◌, ◌<◌, ◌≤◌, T, leb, List, [], ◌∷◌, ◌++◌, reverse, length, get_or, take, drop, Some, None, Option, sym, refl, ap, ◌∙◌, subst, arith}
use Rattle.std.specs.List.{range_with_len, flat_map}
use Rattle.std.specs.Option.{option_map}
use Rattle.std.proofs.lemmas.List.{length-map, length-reverse, length-take-le, map-append, take-append-drop}
use Rattle.board.specs.declared.offers.Offer.{Offer}
use Rattle.cost.specs.Kinds.{Meaning}
use Rattle.plans.specs.Choices
use Rattle.plans.specs.Choices.{In, smallest, fits}
use Rattle.plans.specs.Fronts.{Pair, front}
use Rattle.plans.specs.Boards.{priced}
use Rattle.plans.specs.Promises.{Priced, admits}
use Rattle.plans.proofs.Members.{and_right, reverse_out}
use Rattle.plans.proofs.Opening.{bound_exact}
use Rattle.plans.proofs.Reaching.{priced_reversed}
use Rattle.fronts.specs.declared.merge.PricedOffer.{PricedOffer}
use Rattle.fronts.specs.declared.row.Row.{Row}
use Rattle.fronts.specs.Merge.{offer_at, offers_of, numbered_offer, NextRow}
use Rattle.fronts.specs.Merging.{given}
use Rattle.fronts.specs.Rows.{measure_at, offers_from, row_of, rows_of, bound_at}
use Rattle.fronts.specs.Steps.{price_of}
use Rattle.fronts.proofs.Bounding.{rows_from}
use Rattle.fronts.proofs.Rowing.{rows_priced, rows_light, done_more}

-- lists that are joined from equal parts are equal
joined_same : {Y : Type 0} (f h : ℕ → List Y) (a n top : ℕ) → a + n ≤ top → ((l : ℕ) → l < top → f l ≡ h l) → flat_map f (range_with_len a n) ≡ flat_map h (range_with_len a n)
joined_same f h a zero top le same = refl
joined_same f h a (suc n) top le same = let here = same a (omega arith) in let rest = joined_same f h (a + 1) n top (omega arith) same in cc

module _ {C : Type 0} (k : Meaning C) where
  priced_at : (level : ℕ) (x : Option Offer) → given (numbered_offer level (price_of k x)) ≡ priced k level (option_map (λ y. y.measure) x)
  priced_at level None = refl
  priced_at level (Some o) = refl

  pub prices_listed : (os : List (Option Offer)) (ps : List (Option (PricedOffer C))) → ((l : ℕ) → l < 8 → get_or ps l None ≡ price_of k (get_or os l None)) → offers_of ps ≡ offers_from k os 0 8
  prices_listed os ps prices =
      joined_same (λ l. given (offer_at ps l)) (λ l. priced k l (measure_at os l)) 0 8 8 (omega arith) (λ l h. ap (λ (x : Option (PricedOffer C)). given (numbered_offer l x)) (prices l h) ∙ priced_at l (get_or os l None))

  -- where the smallest loads of all rows fit, each row admits some sum
  some_admitted : (xs : List (Choices.Row C)) (row : Choices.Row C) (later : List (Choices.Row C)) (sum : ℕ) → T (fits sum (xs ++ row ∷ later)) → (m : ℕ) × T (admits row later m)
  some_admitted [] row later sum t = (sum + smallest row.offers, t)
  some_admitted (x ∷ xs) row later sum t = some_admitted xs row later (sum + smallest x.offers) (and_right (leb (sum + smallest x.offers) x.limit) (fits (sum + smallest x.offers) (xs ++ row ∷ later)) t)

  module _ (rs : List Row) (few : length rs ≤ 48) (open' : T (fits 0 (rows_of k rs))) (i : ℕ) (h : i < length rs) (r : Row) (is : r ≡ get_or rs i r) where
    split : rows_of k rs ≡ rows_of k (take i rs) ++ row_of k r ∷ rows_of k (drop (i + 1) rs)
    split =
        ap (rows_of k) (sym (take-append-drop i rs)) ∙ map-append (row_of k) (take i rs) (drop i rs)
        ∙ ap (λ (l : List (Choices.Row C)). rows_of k (take i rs) ++ l) (rows_from k rs i h r is)

    more : reverse (rows_of k (take (i + 1) rs)) ≡ row_of k r ∷ reverse (rows_of k (take i rs))
    more = done_more k rs i h r is

    count_done : length (reverse (rows_of k (take i rs))) ≡ i
    count_done = length-reverse (rows_of k (take i rs)) ∙ length-map (take i rs) (row_of k) ∙ length-take-le i rs (omega arith)

    pub next_row : (ps : List (Pair C)) (os : List (Option (PricedOffer C))) (b : ℕ) → ps ≡ front k (reverse (rows_of k (take i rs))) (row_of k r ∷ rows_of k (drop (i + 1) rs)) →
        ((l : ℕ) → l < 8 → get_or os l None ≡ price_of k (get_or r.offers l None)) → b ≡ bound_at k rs i r →
        NextRow k ps os b (row_of k r) (reverse (rows_of k (take i rs))) (rows_of k (drop (i + 1) rs))
    next_row ps os b pairs prices limit =
        let m = some_admitted (rows_of k (take i rs)) (row_of k r) (rows_of k (drop (i + 1) rs)) 0 (subst (λ (l : List (Choices.Row C)). T (fits 0 l)) split open') in
        let exact = bound_exact (row_of k r) (rows_of k (drop (i + 1) rs)) m.0 m.1 in
        record {
          few = omega (arith, count_done);
          light = λ x j. rows_light k (take (i + 1) rs) x (reverse_out (rows_of k (take (i + 1) rs)) x (subst (λ (l : List (Choices.Row C)). In x l) (sym more) j));
          priced = ∣ subst (λ (l : List (Choices.Row C)). Priced k l) more (priced_reversed k (rows_of k (take (i + 1) rs)) (rows_priced k (take (i + 1) rs))) ∣₁;
          pairs = pairs;
          offers = prices_listed r.offers os prices;
          within = λ n le. (exact n).1 (subst (λ x. n ≤ x) limit le);
          beyond = λ n t. subst (λ x. n ≤ x) (sym limit) ((exact n).0 t);
        }
