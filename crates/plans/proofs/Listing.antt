-- How many places there are, which pairs they hold, and that no front is empty where the smallest loads fit.
use Rattle.std.proofs.Common.{◌≡◌, ℕ, ◌+◌, ◌≤◌, Bool, true, false, cond, not, ◌&&◌, ◌||◌, T, List, [], ◌∷◌, map, length, Some, None, Option, sym, refl, ap, ◌∙◌, subst, inr, arith}
use Rattle.std.proofs.lemmas.List.{length-append, length-map}
use Rattle.cost.specs.Kinds.{Meaning, most_entries, Laws}
use Rattle.plans.specs.Choices.{In, Offer, Row, Taken, taken, beginnings, load, fits}
use Rattle.plans.specs.Fronts.{Pair, pair, no_worse, unbeaten, sorted, front}
use Rattle.plans.specs.Places.{Source, placed, completed, next_places, listed, sizes}
use Rattle.plans.specs.Promises.{Priced, admits}
use Rattle.plans.proofs.Members.{cond_yes, each_in}
use Rattle.plans.proofs.Opening.{smallest_of, open_keeps, open_fits, open_in}
use Rattle.plans.proofs.Reaching.{reached_out, front_out, front_covers}
use Rattle.plans.proofs.Candidates.{pair_of}

module _ {C : Type 0} (base : ℕ) where
  placed_pair : (p : Pair C) (r : Option (Source C)) → pair_of (placed base p r) ≡ p
  placed_pair p None = refl
  placed_pair p (Some s) = refl

  placed_pairs : (from : Pair C → Option (Source C)) (ps : List (Pair C)) → map pair_of (map (λ p. placed base p (from p)) ps) ≡ ps
  placed_pairs from [] = refl
  placed_pairs from (p ∷ ps) = let here = placed_pair p (from p) in let rest = placed_pairs from ps in cc

module _ {C : Type 0} (k : Meaning C) where
  -- the front of no rows
  pub front_none : (later : List (Row C)) → T (fits 0 later) → front k [] later ≡ pair k [] ∷ []
  front_none later t =
      ap (λ (bs : List (List (Taken C))). sorted k (unbeaten k (map (pair k) bs))) (cond_yes (fits 0 later) ([] ∷ []) [] t) ∙ alone (no_worse k (pair k []) (pair k []))
    where
      alone : (b : Bool) → sorted k (cond (not ((b && not b) || false)) (pair k [] ∷ []) []) ≡ pair k [] ∷ []
      alone true = refl
      alone false = refl

  -- the places of a front hold its pairs
  pub pairs_next : (base : ℕ) (row : Row C) (done later : List (Row C)) → map pair_of (next_places k base row done later) ≡ front k (row ∷ done) later
  pairs_next base row done later = placed_pairs base (λ p. completed k p (front k done (row ∷ later)) row.offers) (front k (row ∷ done) later)

  pub length_next : (base : ℕ) (row : Row C) (done later : List (Row C)) → length (next_places k base row done later) ≡ length (front k (row ∷ done) later)
  length_next base row done later = length-map (front k (row ∷ done) later) (λ p. placed base p (completed k p (front k done (row ∷ later)) row.offers))

  -- the list has as many places as there are states
  pub length_listed : (base : ℕ) (done later : List (Row C)) → length (listed k base done later) ≡ sizes k done later
  length_listed base done [] = refl
  length_listed base done (row ∷ later) =
      let rest = listed k (base + length (front k done (row ∷ later))) (row ∷ done) later in
      length-append (next_places k base row done later) rest ∙ ap (λ n. n + length rest) (length_next base row done later)
      ∙ ap (λ n. length (front k (row ∷ done) later) + n) (length_listed (base + length (front k done (row ∷ later))) (row ∷ done) later)

  -- a front is followed by one that is not empty either
  pub front_goes_on : (laws : Laws k) (row : Row C) (done later : List (Row C)) → length (row ∷ done) ≤ most_entries → Priced k (row ∷ done) → (o : Offer C) → In o row.offers →
      (p : Pair C) → In p (front k done (row ∷ later)) → (q : Pair C) × In q (front k (row ∷ done) later)
  front_goes_on laws row done later few priced o i p h =
      let r = reached_out k done (row ∷ later) p (front_out k laws done (row ∷ later) (omega arith) (λ s j. priced s (inr j)) p h).stands in
      let b = r.beginning in
      let l = smallest_of row.offers o i in
      let room : T (admits row later (load b + l.0.load)) = subst (λ (n : ℕ). T (admits row later (load b + n))) (sym l.2) (open_fits (row ∷ later) b r.opens) in
      let c = front_covers k laws (row ∷ done) later few priced (taken row b l.0) (each_in (taken row) (beginnings done) row.offers b l.0 r.begins l.1) (open_in row later b l.0 (open_keeps (row ∷ later) b r.opens) room) in
      (c.0, c.1)
