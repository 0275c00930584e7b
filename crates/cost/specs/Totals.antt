-- What holds of the sums and totals of every kind.
use Rattle.std.specs.Prelude.{◌≡◌, ℕ, suc, ◌+◌, ◌<◌, ◌≤◌, Bool, true, false, T, List, [], ◌∷◌, length, Some, refl}
use Rattle.std.proofs.Common.{sym, ap, subst, ◌∙◌, ⊎_elim, arith, add-one}
use Rattle.std.proofs.lemmas.Option.{none-some, same_Some}
use Rattle.board.specs.declared.measures.Measure.{Measure}
use Rattle.board.specs.Measures.{Offered}
use Rattle.cost.specs.Kinds.{Meaning, unless_declined, most_entries, Sum, nothing, entry, both, Total, NoDearer, Laws}
use Rattle.cost.specs.Sums.{Entries, total_of, Reordered, no_items, same_first, first_two, by_way_of, NeverDeclined, OrderKept, AnyOrder}

-- what a call answered that may decline
pub answered : {C : Type 0} (answers : Bool) (c d : C) → Some d ≡ unless_declined answers c → d ≡ c
answered true c d e = same_Some d c e
answered false c d e = absurd (none-some d (sym e))

-- a call that does not decline
not_declined : {C : Type 0} (answers : Bool) (c : C) → T answers → unless_declined answers c ≡ Some c
not_declined true c h = refl
not_declined false c h = absurd h

pub reordered_length : {X : Type 0} {xs ys : List X} → Reordered xs ys → length xs ≡ length ys
reordered_length no_items = refl
reordered_length (same_first r) = ap suc (reordered_length r)
reordered_length first_two = refl
reordered_length (by_way_of r s) = reordered_length r ∙ reordered_length s

module _ {C : Type 0} (k : Meaning C) where
  -- a sum of few entries
  pub few_total : (n : ℕ) (c : C) → n ≤ most_entries → Sum k n c → Total k c
  few_total n c few s = record { count = n; few = few; sum = s }

  -- what a measure of an offered level is priced at is an entry
  pub priced_entry : (m : Measure) (e : C) → Offered m → e ≡ k.worth m → Sum k 1 e
  priced_entry m e o is = subst (λ (x : C). Sum k 1 x) (sym is) (entry o)

  pub entry_total : (e : C) → Sum k 1 e → Total k e
  entry_total e s = few_total 1 e (omega arith) s

  -- a sum and one entry more
  pub next_total : (n : ℕ) (c e : C) → Sum k n c → Sum k 1 e → n < most_entries → Total k (k.plus c e)
  next_total n c e s t few = few_total (n + 1) (k.plus c e) (omega arith) (both s t)

  -- the total of a list of entries is a sum of as many
  pub entries_sum : (es : List C) → Entries k es → Sum k (length es) (total_of k es)
  entries_sum [] a = nothing
  entries_sum (e ∷ es) a = subst (λ (n : ℕ). Sum k n (total_of k (e ∷ es))) (add-one (length es)) (both (entries_sum es a.1) a.0)

  pub reordered_entries : {es fs : List C} → Reordered es fs → Entries k es → Entries k fs
  reordered_entries no_items a = a
  reordered_entries (same_first r) a = (a.0, reordered_entries r a.1)
  reordered_entries first_two a = (a.1.0, (a.0, a.1.1))
  reordered_entries (by_way_of r s) a = reordered_entries s (reordered_entries r a)

  module _ (laws : Laws k) where
    -- a total is no dearer than itself
    pub self : (a : C) → Total k a → NoDearer k a a
    self a t = ⊎_elim (λ h. h) (λ h. h) (laws.either a a t t)

    -- zero adds nothing on the left either
    pub idle_left : (a : C) → Total k a → k.plus k.none a ≡ a
    idle_left a t =
        let tn = few_total 0 k.none (omega arith) nothing in
        let left = few_total (0 + t.count) (k.plus k.none a) (omega (arith, t.few)) (both nothing t.sum) in
        let right = few_total (t.count + 0) (k.plus a k.none) (omega (arith, t.few)) (both t.sum nothing) in
        laws.comm k.none a tn t left right ∙ laws.idle a t

    pub never_declined : NeverDeclined k
    never_declined = record {
      priced = λ m o. not_declined (k.prices m) (k.worth m) (laws.priced m o);
      added = λ n c e s t few.
          not_declined (k.adds c e) (k.plus c e) (laws.added c e (few_total n c (omega arith) s) (entry_total e t) (next_total n c e s t few));
    }

    pub order_kept : OrderKept k
    order_kept i j a b e s t u few_i few_j h =
        laws.grows a b e (few_total i a (omega arith) s) (few_total j b (omega arith) t) (entry_total e u) (next_total i a e s u few_i) (next_total j b e t u few_j) h

    -- two entries in either order
    pub two_turned : (n : ℕ) (a e f : C) → Sum k n a → n + 2 ≤ most_entries → Sum k 1 e → Sum k 1 f → k.plus (k.plus a e) f ≡ k.plus (k.plus a f) e
    two_turned n a e f s few u v =
        let ta = few_total n a (omega arith) s in
        let te = entry_total e u in
        let tf = entry_total f v in
        let tae = next_total n a e s u (omega arith) in
        let taf = next_total n a f s v (omega arith) in
        let tef = next_total 1 e f u v (omega arith) in
        let tfe = next_total 1 f e v u (omega arith) in
        let taef = next_total (n + 1) (k.plus a e) f (both s u) v (omega arith) in
        let tafe = next_total (n + 1) (k.plus a f) e (both s v) u (omega arith) in
        let ta_ef = few_total (n + (1 + 1)) (k.plus a (k.plus e f)) (omega arith) (both s (both u v)) in
        let ta_fe = few_total (n + (1 + 1)) (k.plus a (k.plus f e)) (omega arith) (both s (both v u)) in
        laws.assoc a e f ta te tf tae tef taef ta_ef ∙ ap (k.plus a) (laws.comm e f te tf tef tfe) ∙ sym (laws.assoc a f e ta tf te taf tfe tafe ta_fe)

    pub any_order : AnyOrder k
    any_order _ _ no_items few a = refl
    any_order _ _ (same_first {x = e} {xs = es} {ys = fs} r) few a = ap (λ c. k.plus c e) (any_order es fs r (omega arith) a.1)
    any_order _ _ (first_two {x = e} {y = f} {xs = es}) few a =
        two_turned (length es) (total_of k es) f e (entries_sum es a.1.1) (omega arith) a.1.0 a.0
    any_order es fs (by_way_of {ys = gs} r s) few a = any_order es gs r few a ∙ any_order gs fs s (omega (arith, reordered_length r)) (reordered_entries r a)
