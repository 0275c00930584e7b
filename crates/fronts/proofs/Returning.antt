-- The way back through the list, step by step.
use Rattle.std.proofs.Common.{◌≡◌, ℕ, zero, suc, ◌+◌, ◌-◌, ◌<◌, ◌≤◌, true, T, eqb, List, [], ◌∷◌, ◌++◌, reverse, length, get_or, take, set, replicate, Some, None, Option, sym, refl, ap, ◌∙◌, subst, inl, inr, arith}
use mathlib.Core.List.{reverse_aux}
use Rattle.std.specs.Option.{option_or}
use Rattle.std.specs.List.{slice_get}
use Rattle.std.proofs.lemmas.List.{append_assoc, ext_get_or, length-append, length-take, get_or-take, get_or_append_left, get_or-append-add, get_or-map, length-set, get_or-set_same, get_or-set_other, get_or-replicate, reverse-reverse}
use Rattle.std.proofs.lemmas.List.FromFn.{length-map-range_with_len, get_or-map-range_with_len}
use Rattle.std.proofs.lemmas.Bool.{cases_eq, eq-eqb, ne_eqb, cond-true, cond-false}
use Rattle.cost.specs.Kinds.{Meaning, most_entries, Laws}
use Rattle.plans.specs.declared.states.State.{State}
use Rattle.plans.specs.Choices.{In, Row, Taken, keeps, fits}
use Rattle.plans.specs.Fronts.{Pair, front}
use Rattle.plans.specs.Places.{placed, completed, next_places, listed, places, back, cheapest, best, chosen}
use Rattle.plans.specs.Plans.{level_at}
use Rattle.plans.specs.Promises.{Priced, Rows}
use Rattle.plans.proofs.Members.{and_in, none-some, same_some, nth_in}
use Rattle.plans.proofs.Backwards.{Came, came, back_step}
use Rattle.plans.proofs.Listing.{front_none, length_next}
use Rattle.plans.proofs.Reaching.{few_reversed, priced_reversed, front_covers}
use Rattle.plans.proofs.Fitting.{fits_possible}
use Rattle.fronts.specs.Back.{first_position, picked}

-- what stands at an index
nth_at : {X : Type 0} (xs : List X) (i : ℕ) (x : X) → slice_get xs i ≡ Some x → (i < length xs) × (get_or xs i x ≡ x)
nth_at [] i x e = absurd (none-some refl e)
nth_at (y ∷ xs) zero x e = (omega arith, same_some refl e)
nth_at (y ∷ xs) (suc i) x e = let r = nth_at xs i x e in (omega (arith, r.0), r.1)

module _ {C : Type 0} (k : Meaning C) where
  -- the places of the fronts of the rows done
  abbrev upto : List (Row C) → List (Row C) → List (State C)
  upto [] later = []
  upto (row ∷ done) later = upto done (row ∷ later) ++ next_places k (first_position k done (row ∷ later)) row done later

  listed_split : (done later : List (Row C)) → places k (reverse_aux done later) ≡ upto done later ++ listed k (first_position k done later) done later
  listed_split [] later = refl
  listed_split (row ∷ done) later =
      listed_split done (row ∷ later)
      ∙ sym (append_assoc (upto done (row ∷ later)) (next_places k (first_position k done (row ∷ later)) row done later) (listed k (first_position k (row ∷ done) later) (row ∷ done) later))

  -- the front of a row begins behind the fronts of the rows before
  first_behind : (row : Row C) (done later : List (Row C)) → T (fits 0 (reverse_aux done (row ∷ later))) → first_position k (row ∷ done) later ≡ length (upto done (row ∷ later)) + 1
  first_behind row [] later t = omega (arith, ap length (front_none k (row ∷ later) t))
  first_behind row (last ∷ done) later t =
      let new = next_places k (first_position k done (last ∷ row ∷ later)) last done (row ∷ later) in
      omega (arith, first_behind last done (row ∷ later) t, length_next k (first_position k done (last ∷ row ∷ later)) last done (row ∷ later), length-append (upto done (last ∷ row ∷ later)) new)

  module _ (rows : List (Row C)) (fit : T (fits 0 rows)) (list : List (State C)) (held : take (length (places k rows)) list ≡ places k rows)
      (row : Row C) (done later : List (Row C)) (split : reverse_aux done (row ∷ later) ≡ rows) (j : ℕ) (p : Pair C) (stands : slice_get (front k (row ∷ done) later) j ≡ Some p) where
    abbrev base : ℕ
    base = first_position k done (row ∷ later)

    abbrev before : List (State C)
    before = upto done (row ∷ later)

    abbrev here : List (State C)
    here = next_places k base row done later

    abbrev behind : List (State C)
    behind = listed k (first_position k (row ∷ done) later) (row ∷ done) later

    places_are : places k rows ≡ before ++ (here ++ behind)
    places_are = ap (places k) (sym split) ∙ listed_split done (row ∷ later)

    begins : first_position k (row ∷ done) later ≡ length before + 1
    begins = first_behind row done later (subst (λ (rs : List (Row C)). T (fits 0 rs)) (sym split) fit)

    inside : j < length here
    inside = omega (arith, (nth_at (front k (row ∷ done) later) j p stands).0, length_next k base row done later)

    sized : length (places k rows) ≡ length before + (length here + length behind)
    sized = ap length places_are ∙ length-append before (here ++ behind) ∙ ap (λ n. length before + n) (length-append here behind)

    module _ (i : ℕ) (at : i + 1 ≡ first_position k (row ∷ done) later + j) where
      index_is : i ≡ length before + j
      index_is = omega (arith, begins)

      listed_index : i < length (places k rows)
      listed_index = omega (arith, index_is, sized, inside)

      in_list : i < length list
      in_list = omega (arith, listed_index, length-take (length (places k rows)) list, ap length held)

      -- the state at the position of a pair tells where the pair came from
      state_at : (s : State C) → s ≡ get_or list i s → s ≡ placed base p (completed k p (front k done (row ∷ later)) row.offers)
      state_at s is =
          is ∙ sym (get_or-take (length (places k rows)) list i s listed_index) ∙ ap (λ (xs : List (State C)). get_or xs i s) (held ∙ places_are)
          ∙ ap (λ n. get_or (before ++ (here ++ behind)) n s) index_is ∙ get_or-append-add before (here ++ behind) j s ∙ get_or_append_left here behind s j inside
          ∙ get_or-map (λ (q : Pair C). placed base q (completed k q (front k done (row ∷ later)) row.offers)) (front k (row ∷ done) later) j p s (nth_at (front k (row ∷ done) later) j p stands).0
          ∙ ap (λ (q : Pair C). placed base q (completed k q (front k done (row ∷ later)) row.offers)) (nth_at (front k (row ∷ done) later) j p stands).1

-- what is picked at a place stays
pick_stays : (x : Option ℕ) (level : ℕ) (rest : Option ℕ) → option_or x (Some level) ≡ option_or (option_or x (Some level)) rest
pick_stays None level rest = refl
pick_stays (Some other) level rest = refl

pick_last : (x : Option ℕ) → option_or x None ≡ x
pick_last None = refl
pick_last (Some level) = refl

-- one more level is picked
pick_more : {C : Type 0} (t : Taken C) (b : List (Taken C)) (picks : List (Option ℕ)) (spot : ℕ) → spot + 1 ≡ t.row.port → spot < length picks → (i : ℕ) →
    option_or (get_or picks i None) (level_at (t ∷ b) (i + 1)) ≡ option_or (get_or (set picks spot (option_or (get_or picks spot None) (Some t.offer.level))) i None) (level_at b (i + 1))
pick_more t b picks spot at h i =
    let level = t.offer.level in
    let new = option_or (get_or picks spot None) (Some level) in
    elim (cases_eq i spot) [
      | inl e ↦ ap (option_or (get_or picks i None)) (cond-true (eqb t.row.port (i + 1)) (Some level) (level_at b (i + 1)) (eq-eqb t.row.port (i + 1) (omega arith)))
          ∙ ap (λ n. option_or (get_or picks n None) (Some level)) e
          ∙ pick_stays (get_or picks spot None) level (level_at b (i + 1))
          ∙ ap (λ x. option_or x (level_at b (i + 1))) (sym (ap (λ n. get_or (set picks spot new) n None) e ∙ get_or-set_same picks spot new None h))
      | inr ne ↦ ap (option_or (get_or picks i None)) (cond-false (eqb t.row.port (i + 1)) (Some level) (level_at b (i + 1)) (ne_eqb t.row.port (i + 1) (λ e. ne (omega arith))))
          ∙ ap (λ x. option_or x (level_at b (i + 1))) (sym (get_or-set_other picks spot i new None ne))
    ]

-- The way back has come to a pair of the front of the rows done, which has this position. The levels picked so far, and
-- for the other ports those of the way that is left, are the plan's.
pub record Way {C : Type 0} (k : Meaning C) (rows done later : List (Row C)) (position : ℕ) (picks : List (Option ℕ)) : Type 0 where
  pub split : reverse_aux done later ≡ rows
  pub few : length done ≤ most_entries
  pub priced : Priced k done
  pub index : ℕ
  pub at : Pair C
  pub stands : slice_get (front k done later) index ≡ Some at
  pub is : position ≡ first_position k done later + index
  pub size : length picks ≡ 48
  pub told : (i : ℕ) → i < 48 → level_at (chosen k rows) (i + 1) ≡ option_or (get_or picks i None) (level_at (back k done later at) (i + 1))

cheapest_first : {C : Type 0} (k : Meaning C) (ps : List (Pair C)) (p : Pair C) → In p ps → slice_get ps 0 ≡ Some (cheapest k ps)
cheapest_first k [] p h = absurd h
cheapest_first k (q ∷ ps) p h = refl

module _ {C : Type 0} (k : Meaning C) (laws : Laws k) (rows : List (Row C)) (fit : T (fits 0 rows)) where
  -- it starts at the cheapest pair of the last front
  pub way_starts : Rows k rows → Way k rows (reverse rows) [] (first_position k (reverse rows) []) (replicate 48 None)
  way_starts board =
      let few = few_reversed k rows board.few in
      let priced = priced_reversed k rows board.priced in
      let some = fits_possible rows board.offered fit in
      let c = front_covers k laws (reverse rows) [] few priced some.choice some.chosen (and_in (keeps some.choice) true some.kept tt) in
      record {
        split = reverse-reverse rows;
        few = few;
        priced = priced;
        index = 0;
        at = best k rows;
        stands = cheapest_first k (front k (reverse rows) []) c.0 c.1;
        is = omega arith;
        size = refl;
        told = λ i h. ap (λ x. option_or x (level_at (chosen k rows) (i + 1))) (sym (get_or-replicate 48 i None None h));
      }

  module _ (list : List (State C)) (held : take (length (places k rows)) list ≡ places k rows) {row : Row C} {done later : List (Row C)} {position : ℕ} {picks : List (Option ℕ)} (w : Way k rows (row ∷ done) later position picks) where
    pub position_some : 1 ≤ position
    position_some = omega (arith, w.is, begins k rows fit list held row done later w.split w.index w.at w.stands)

    next_index : position - 1 + 1 ≡ first_position k (row ∷ done) later + w.index
    next_index = omega (arith, w.is, position_some)

    pub position_listed : position - 1 < length list
    position_listed = in_list k rows fit list held row done later w.split w.index w.at w.stands (position - 1) next_index

    source : Came k row done later w.at
    source = came k laws row done later w.few w.priced w.at (nth_in (front k (row ∷ done) later) w.index w.at w.stands)

    -- the state at the position leads on to the front before
    pub way_on : (s : State C) → s ≡ get_or list (position - 1) s → (spot : ℕ) → spot + 1 ≡ row.port → spot < 48 → (new : Option ℕ) → new ≡ option_or (get_or picks spot None) (Some s.level) →
        Way k rows done (row ∷ later) s.position (set picks spot new)
    way_on s read spot port near new pick =
        let from = source.from in
        let b = back k done (row ∷ later) from.before in
        let is : s ≡ placed (first_position k done (row ∷ later)) w.at (Some from) = state_at k rows fit list held row done later w.split w.index w.at w.stands (position - 1) next_index s read ∙ ap (placed (first_position k done (row ∷ later)) w.at) source.is in
        record {
          split = w.split;
          few = omega (arith, w.few);
          priced = λ r i. w.priced r (inr i);
          index = from.index;
          at = from.before;
          stands = source.stands;
          is = ap (λ (x : State C). x.position) is;
          size = length-set picks spot new ∙ w.size;
          told = λ i h. w.told i h ∙ ap (λ (x : List (Taken C)). option_or (get_or picks i None) (level_at x (i + 1))) (back_step k laws row done later w.at source)
              ∙ pick_more (record { row = row; offer = from.offer }) b picks spot port (omega (arith, w.size)) i
              ∙ ap (λ x. option_or (get_or (set picks spot x) i None) (level_at b (i + 1))) (sym (pick ∙ ap (λ (x : State C). option_or (get_or picks spot None) (Some x.level)) is));
        }

-- with no rows left the levels are the plan's
pub way_ends : {C : Type 0} (k : Meaning C) (rows : List (Row C)) {later : List (Row C)} {position : ℕ} {picks : List (Option ℕ)} → Way k rows [] later position picks → picks ≡ picked k rows
way_ends k rows {picks = picks} w =
    ext_get_or None picks (picked k rows) (w.size ∙ sym (length-map-range_with_len (level_at (chosen k rows)) 1 48))
    (λ i h. let near : i < 48 = omega (arith, w.size) in
    sym (pick_last (get_or picks i None)) ∙ sym (w.told i near) ∙ sym (get_or-map-range_with_len (level_at (chosen k rows)) 1 48 i (i + 1) None near (omega arith)))
