-- The rows of standing tasks keep what is asked of rows.
use Rattle.std.proofs.Common.{◌≡◌, ℕ, zero, suc, ◌+◌, ◌<◌, ◌≤◌, List, [], ◌∷◌, map, length, Some, None, Option, sym, refl, ap, ◌∙◌, subst, inl, inr, ⊎_elim, arith}
use Rattle.std.specs.List.{range_with_len, flat_map, slice_get}
use Rattle.std.proofs.lemmas.Option.{slice_get_within}
use Rattle.std.proofs.lemmas.List.{length-map}
use Rattle.std.proofs.lemmas.Bool.{cases_lt}
use Rattle.board.specs.declared.levels.Level.{Level}
use Rattle.board.specs.declared.measures.Measure.{Measure}
use Rattle.board.specs.Processors.{ProcessorFigures}
use Rattle.board.specs.Measures.{offer_at, offer, Offered}
use Rattle.board.specs.Tasks.{FiguresOfTask}
use Rattle.cost.specs.Kinds.{Meaning, most_entries, Sum, entry}
use Rattle.plans.specs.Choices.{In, Offer, Row}
use Rattle.plans.specs.Boards.{Standing, sooner, put_by_deadline, by_deadline, priced, offers, row, periodic_rows, sporadic_rows, joint_period, periodic_limit, sporadic_limit, due_of}
use Rattle.plans.specs.Promises.{Rows, Measured}
use Rattle.plans.proofs.Members.{cond_by, map_out, append_left, append_right, append_out, only, none-some}

-- where a joined list has a member from
pub joined_in : {X Y : Type 0} (f : X → List Y) (xs : List X) (x : X) (y : Y) → In x xs → In y (f x) → In y (flat_map f xs)
joined_in f [] x y h i = absurd h
joined_in {X} f (z ∷ xs) x y (inl e) i = append_left (f z) (flat_map f xs) y (subst (λ (a : X). In y (f a)) e i)
joined_in f (z ∷ xs) x y (inr h) i = append_right (f z) (flat_map f xs) y (joined_in f xs x y h i)

pub joined_out : {X Y : Type 0} (f : X → List Y) (xs : List X) (y : Y) → In y (flat_map f xs) → (x : X) × In y (f x)
joined_out f [] y h = absurd h
joined_out f (z ∷ xs) y h = ⊎_elim (λ i. (z, i)) (joined_out f xs y) (append_out (f z) (flat_map f xs) y h)

pub counting_in : (n a i : ℕ) → a ≤ i → i < a + n → In i (range_with_len a n)
counting_in zero a i low high = absurd (omega arith)
counting_in (suc n) a i low high = ⊎_elim (λ lt. inr (counting_in n (a + 1) i (omega arith) (omega arith))) (λ le. inl (omega arith)) (cases_lt a i)

-- a level that is offered comes before the end of the levels
offered_short : (p : ProcessorFigures) (t : FiguresOfTask) (h n : ℕ) (m : Measure) → offer p t h n ≡ Some m → n < length p.levels
offered_short p t h n m = at (slice_get p.levels n) refl
  where
    at : (o : Option Level) → slice_get p.levels n ≡ o → offer_at p t h o ≡ Some m → n < length p.levels
    at None e f = absurd (none-some refl f)
    at (Some l) e f = slice_get_within p.levels n l e

-- the rows of a list of standing tasks, under whatever limits
module _ {C : Type 0} (k : Meaning C) (p : ProcessorFigures) (h : ℕ) where
  priced_sum : (level : ℕ) (r : Option Measure) (o : Offer C) → ((m : Measure) → r ≡ Some m → Offered m) → In o (priced k level r) → Sum k 1 o.entry
  priced_sum level None o measures i = absurd i
  priced_sum level (Some m) o measures i = subst (λ (x : Offer C). Sum k 1 x.entry) (sym (only i)) (entry (measures m refl))

  offers_priced : (s : Standing) → Measured p h s → (o : Offer C) → In o (offers k p s.task h) → Sum k 1 o.entry
  offers_priced s measured o i =
      let j = joined_out (λ level. priced k level (offer p s.task h level)) (range_with_len 0 (length p.levels)) o i in
      priced_sum j.0 (offer p s.task h j.0) o (measured.measures j.0) j.1

  offers_some : (s : Standing) → Measured p h s → (o : Offer C) × In o (offers k p s.task h)
  offers_some s measured =
      let n = measured.offered.0 in
      let m = measured.offered.1 in
      let e = measured.offered.2 in
      let o : Offer C = record { level = n; load = m.load; entry = k.worth m } in (
        o,
        joined_in (λ level. priced k level (offer p s.task h level)) (range_with_len 0 (length p.levels)) n o
            (counting_in (length p.levels) 0 n (omega arith) (omega (arith, offered_short p s.task h n m e)))
            (subst (λ (r : Option Measure). In o (priced k n r)) (sym e) (inl refl)),
      )

  rows_stand : (limit : Standing → ℕ) (ss : List Standing) → length ss ≤ most_entries → ((s : Standing) → In s ss → Measured p h s) → Rows k (map (λ s. row k p h (limit s) s) ss)
  rows_stand limit ss few measured = record {
    few = omega (arith, length-map ss (λ s. row k p h (limit s) s));
    offered = λ r i. let m = map_out (λ s. row k p h (limit s) s) ss r i in subst (λ (x : Row C). (o : Offer C) × In o x.offers) (sym m.2) (offers_some m.0 (measured m.0 m.1));
    priced = λ r i o j. let m = map_out (λ s. row k p h (limit s) s) ss r i in offers_priced m.0 (measured m.0 m.1) o (subst (λ (x : Row C). In o x.offers) m.2 j);
  }

-- sorting by deadline neither adds nor loses a task
put_out : (s : Standing) (ts : List Standing) (x : Standing) → In x (put_by_deadline s ts) → In x (s ∷ ts)
put_out s [] x = λ h. h
put_out s (t ∷ ts) x =
    cond_by (sooner s t) (s ∷ t ∷ ts) (t ∷ put_by_deadline s ts) (λ l. In x l → In x (s ∷ t ∷ ts)) (λ _ h. h)
    (λ _ h. ⊎_elim (λ e. inr (inl e)) (λ g. ⊎_elim inl (λ i. inr (inr i)) (put_out s ts x g)) h)

by_deadline_out : (ss : List Standing) (x : Standing) → In x (by_deadline ss) → In x ss
by_deadline_out [] x h = h
by_deadline_out (s ∷ ss) x h = ⊎_elim inl (λ g. inr (by_deadline_out ss x g)) (put_out s (by_deadline ss) x h)

length_put : (s : Standing) (ts : List Standing) → length (put_by_deadline s ts) ≡ suc (length ts)
length_put s [] = refl
length_put s (t ∷ ts) = cond_by (sooner s t) (s ∷ t ∷ ts) (t ∷ put_by_deadline s ts) (λ l. length l ≡ suc (suc (length ts))) (λ _. refl) (λ _. ap suc (length_put s ts))

length_by_deadline : (ss : List Standing) → length (by_deadline ss) ≡ length ss
length_by_deadline [] = refl
length_by_deadline (s ∷ ss) = length_put s (by_deadline ss) ∙ ap suc (length_by_deadline ss)

module _ {C : Type 0} (k : Meaning C) (p : ProcessorFigures) (ss : List Standing) (few : length ss ≤ most_entries) where
  pub periodic_stand : (capacity : ℕ) → ((s : Standing) → In s ss → Measured p (joint_period ss) s) → Rows k (periodic_rows k p capacity ss)
  periodic_stand capacity = rows_stand k p (joint_period ss) (λ s. periodic_limit (joint_period ss) capacity) ss few

  pub sporadic_stand : (clock : ℕ) → ((s : Standing) → In s ss → Measured p 1 s) → Rows k (sporadic_rows k p clock ss)
  sporadic_stand clock measured = rows_stand k p 1 (λ s. sporadic_limit (due_of s) clock) (by_deadline ss) (omega (arith, length_by_deadline ss)) (λ s i. measured s (by_deadline_out ss s i))
