-- The fronts in the list, row by row: what stands after each row, and what stands at the end.
use Rattle.std.proofs.Common.{◌≡◌, ℕ, ◌+◌, ◌-◌, ◌≤◌, cond, T, ltb, List, [], ◌∷◌, ◌++◌, map, length, take, drop, Some, None, Ok, Err, sym, refl, ap, ◌∙◌, arith, take-add}
use Rattle.std.proofs.lemmas.List.{append_assoc, append-nil, drop_at, drop-drop, take_at, length-append, length-drop, length-take-le, take-append-drop}
use Rattle.std.proofs.lemmas.Bool.{ne_eqb, lt-ltb, le-ltb, cond-true, cond-false}
use Rattle.board.specs.declared.faults.Fault.TheVariants.{ListFull}
use Rattle.cost.specs.Kinds.{Meaning}
use Rattle.plans.specs.declared.states.State.{State}
use Rattle.plans.specs.Choices.{Row, fits}
use Rattle.plans.specs.Fronts.{pair, front}
use Rattle.plans.specs.Places.{next_places, listed, places, sizes}
use Rattle.plans.specs.Plans.{laid, list_full}
use Rattle.plans.proofs.Listing.{front_none, pairs_next, length_next}
use Rattle.plans.proofs.Candidates.{pair_of}
use Rattle.fronts.specs.Back.{first_position}
use Rattle.fronts.specs.Merge.{before, Outcome}
use Rattle.fronts.specs.declared.merge.Full.{Full}

module _ {C : Type 0} (k : Meaning C) (old : List (State C)) (rows : List (Row C)) where
  -- The fronts of the rows done stand in the list; the last of them begins at `start`, has `count` places, and `base` is the position of its first pair.
  pub record Progress (list : List (State C)) (done later : List (Row C)) (start count base : ℕ) : Type 0 where
    pub room : start + count ≤ length list
    pub same : length list ≡ length old
    pub pairs : before k base (take count (drop start list)) ≡ front k done later
    pub stands : take (start + count) list ++ listed k base done later ≡ places k rows
    pub behind : drop (start + count) list ≡ drop (start + count) old
    pub states : start + count + sizes k done later ≡ sizes k [] rows
    pub full : list_full k (length old - (start + count)) done later ≡ list_full k (length old) [] rows
    pub placed : base ≡ first_position k done later
    pub next : base + length (front k done later) ≡ start + count + 1

  pub begins : T (fits 0 rows) → Progress old [] rows 0 0 0
  begins t = let none = front_none k rows t in record {
    room = omega arith;
    same = refl;
    pairs = sym none;
    stands = refl;
    behind = refl;
    states = omega arith;
    full = ap (λ n. list_full k n [] rows) (omega arith);
    placed = refl;
    next = omega (arith, ap length none);
  }

  module _ (list : List (State C)) (done later : List (Row C)) (row : Row C) (start count base : ℕ) (inv : Progress list done (row ∷ later) start count base) where
    -- the next front is laid behind the present one
    pub goes_on : (out : List (State C)) (n : ℕ) → Outcome (start + count) (next_places k base row done later) list out (Ok n) → Progress out (row ∷ done) later (start + count) n (start + count + 1)
    goes_on out n o =
        let end = start + count in
        let np = next_places k base row done later in
        let head = take end list in
        let tail = drop (end + length np) list in
        let long : length head ≡ end = length-take-le end list inv.room in
        let size = length_next k base row done later in
        let cut : drop end out ≡ np ++ tail = ap (drop end) o.2 ∙ drop_at head (np ++ tail) end long in
        let both : take (end + n) out ≡ head ++ np =
        take-add end n out
        ∙ ap (λ (l : List (State C)). l ++ take n (drop end out)) (ap (take end) o.2 ∙ take_at head (np ++ tail) end long)
        ∙ ap (λ (l : List (State C)). head ++ take n l) cut
        ∙ ap (λ (l : List (State C)). head ++ l) (take_at np tail n (sym o.0)) in
        let left = length old - end in
        let wide = length (front k (row ∷ done) later) in
        let less : length old - (end + n) ≡ left - wide = omega (arith, o.0, size) in
        let whole : length out ≡ length list = ap length o.2 ∙ length-append head (np ++ tail) ∙ ap (λ m. length head + m) (length-append np tail) ∙ omega (arith, long, length-drop (end + length np) list, o.1) in
        record {
          room = omega (arith, o.0, o.1);
          same = whole ∙ inv.same;
          pairs = ap (λ b. cond b (pair k [] ∷ []) (map pair_of (take n (drop end out)))) (ne_eqb (end + 1) 0 (λ e. omega arith))
              ∙ ap (λ (l : List (State C)). map pair_of (take n l)) cut ∙ ap (map pair_of) (take_at np tail n (sym o.0)) ∙ pairs_next k base row done later;
          stands = ap (λ (l : List (State C)). l ++ listed k (end + 1) (row ∷ done) later) both ∙ append_assoc head np (listed k (end + 1) (row ∷ done) later)
              ∙ ap (λ m. head ++ (np ++ listed k m (row ∷ done) later)) (sym inv.next) ∙ inv.stands;
          behind = sym (drop-drop n end out) ∙ ap (drop n) cut ∙ drop_at np tail n (sym o.0) ∙ sym (drop-drop (length np) end list)
              ∙ ap (drop (length np)) inv.behind ∙ drop-drop (length np) end old ∙ ap (λ m. drop (end + m) old) (sym o.0);
          states = omega (arith, inv.states, o.0, size);
          full = ap (λ m. list_full k m (row ∷ done) later) less ∙ sym (cond-false (ltb left wide) (Some (ListFull row.port)) (list_full k (left - wide) (row ∷ done) later) (le-ltb left wide (omega (arith, o.1, inv.same, size)))) ∙ inv.full;
          placed = sym inv.next ∙ ap (λ n. n + length (front k done (row ∷ later))) inv.placed;
          next = omega (arith, o.0, size);
        }

    -- there is no room for it
    pub stops : (out : List (State C)) (e : Full) → Outcome (start + count) (next_places k base row done later) list out (Err e) → list_full k (length old) [] rows ≡ Some (ListFull row.port)
    stops out e o =
        let size = length_next k base row done later in
        sym inv.full ∙ cond-true (ltb (length old - (start + count)) (length (front k (row ∷ done) later))) _ _ (lt-ltb _ _ (omega (arith, o.0, inv.same, inv.room, size)))

  -- all rows are done
  pub ends : (list : List (State C)) (done : List (Row C)) (start count base : ℕ) → Progress list done [] start count base → (list ≡ laid 0 (places k rows) old) × (start + count ≡ sizes k [] rows) × (list_full k (length old) [] rows ≡ None)
  ends list done start count base inv =
      let end = start + count in
      let all : take end list ≡ places k rows = sym (append-nil (take end list)) ∙ inv.stands in
      let long : length (places k rows) ≡ end = ap length (sym all) ∙ length-take-le end list inv.room in (
        sym (take-append-drop end list) ∙ ap (λ (l : List (State C)). l ++ drop end list) all ∙ ap (λ (l : List (State C)). places k rows ++ l) inv.behind ∙ ap (λ m. places k rows ++ drop m old) (omega (arith, long)),
        omega (arith, inv.states),
        sym inv.full,
      )
