-- Best choices of matched rows have one cost and one load.
use Rattle.std.proofs.Common.{◌≡◌, suc, ◌+◌, ◌≤◌, T, leb, List, [], ◌∷◌, length, sym, refl, ap, ◌∙◌, subst, inl, inr, ⊎_elim, arith, le→leb, leb→le}
use mathlib.Core.Logic.{∥∥₁_elim}
use mathlib.Core.HLevel.{×_prop}
use mathlib.Core.List.{reverse_aux}
use native.Mathlib.Nat.{ℕ_set}
use Rattle.cost.specs.Kinds.{Meaning, most_entries, Laws, NoDearer}
use Rattle.cost.specs.Totals.{two_turned}
use Rattle.plans.specs.Choices.{In, Offer, Row, Taken, taken, beginnings, choices, load, keeps}
use Rattle.plans.specs.Fronts.{cost}
use Rattle.plans.specs.Promises.{Priced, Rows, Best, Alike, Matched, no_rows, one_more, swapped, in_turn}
use Rattle.plans.proofs.Members.{and_in, and_left, and_right, each_in, each_out}
use Rattle.plans.proofs.Reaching.{sum_of, few_reversed, priced_reversed, choice_total}

module _ {C : Type 0} where
  alike_self : (x : Row C) → Alike x x
  alike_self x = record { limit = refl; offers = refl }

  matched_self : (a : List (Row C)) → Matched a a
  matched_self [] = no_rows
  matched_self (x ∷ a) = one_more (alike_self x) (matched_self a)

  matched_back : {a b : List (Row C)} → Matched a b → Matched b a
  matched_back no_rows = no_rows
  matched_back (one_more e m) = one_more (record { limit = sym e.limit; offers = sym e.offers }) (matched_back m)
  matched_back (swapped e) = swapped (sym e)
  matched_back (in_turn m n) = in_turn (matched_back n) (matched_back m)

  matched_length : {a b : List (Row C)} → Matched a b → length a ≡ length b
  matched_length no_rows = refl
  matched_length (one_more e m) = ap suc (matched_length m)
  matched_length (swapped e) = refl
  matched_length (in_turn m n) = matched_length m ∙ matched_length n

  -- in the order of the rows, or back to front
  behind : (a : List (Row C)) {x y : List (Row C)} → Matched x y → Matched (reverse_aux a x) (reverse_aux a y)
  behind [] m = m
  behind (r ∷ a) m = behind a (one_more (alike_self r) m)

  matched_aux : {a b : List (Row C)} → Matched a b → (x : List (Row C)) → Matched (reverse_aux a x) (reverse_aux b x)
  matched_aux no_rows x = matched_self x
  matched_aux (one_more {y = y} {a = a} {b = b} e m) x = in_turn (behind a (one_more e (matched_self x))) (matched_aux m (y ∷ x))
  matched_aux (swapped {a = a} e) x = behind a (swapped (sym e))
  matched_aux (in_turn m n) x = in_turn (matched_aux m x) (matched_aux n x)

module _ {C : Type 0} (k : Meaning C) where
  matched_priced : {a b : List (Row C)} → Matched a b → Priced k a → Priced k b
  matched_priced no_rows p = p
  matched_priced (one_more {x = x} e m) p = λ r h o i. ⊎_elim
      (λ f. p x (inl refl) o (subst (λ (os : List (Offer C)). In o os) (sym e.offers) (subst (λ (y : Row C). In o y.offers) f i)))
      (λ g. matched_priced m (λ s j. p s (inr j)) r g o i) h
  matched_priced (swapped e) p = λ r h. p r (⊎_elim (λ f. inr (inl f)) (λ g. ⊎_elim (λ f. inl f) (λ j. inr (inr j)) g) h)
  matched_priced (in_turn m n) p = matched_priced n (matched_priced m p)

  -- a beginning of the other rows with the same load and cost, which keeps the limits too
  record Twin (b : List (Row C)) (c : List (Taken C)) : Type 0 where
    other : List (Taken C)
    begins : In other (beginnings b)
    loads : load other ≡ load c
    costs : cost k other ≡ cost k c
    keeping : T (keeps c) → T (keeps other)

  twin_at : (b : List (Row C)) (c d : List (Taken C)) → c ≡ d → Twin b d → Twin b c
  twin_at b c d e t = subst (λ (x : List (Taken C)). Twin b x) (sym e) t

  -- what it takes to keep the limits of one row more
  module _ (row : Row C) (b : List (Taken C)) (o : Offer C) where
    keeps_before : T (keeps (taken row b o)) → T (keeps b)
    keeps_before = and_left (keeps b) (leb (load b + o.load) row.limit)

    keeps_last : T (keeps (taken row b o)) → load b + o.load ≤ row.limit
    keeps_last t = leb→le (load b + o.load) row.limit (and_right (keeps b) (leb (load b + o.load) row.limit) t)

    keeps_more : T (keeps b) → load b + o.load ≤ row.limit → T (keeps (taken row b o))
    keeps_more t h = and_in (keeps b) (leb (load b + o.load) row.limit) t (le→leb (load b + o.load) row.limit h)

  module _ (laws : Laws k) where
    twin : {a b : List (Row C)} → Matched a b → length a ≤ most_entries → Priced k a → (c : List (Taken C)) → In c (beginnings a) → Twin b c
    twin no_rows few p c h = record { other = c; begins = h; loads = refl; costs = refl; keeping = λ t. t }
    twin (one_more {x = x} {y = y} {a = a} {b = b} e m) few p c h =
        let q = each_out (taken x) (beginnings a) x.offers c h in
        let o = q.two in
        let t = twin m (omega arith) (λ r i. p r (inr i)) q.one q.one_in in
        twin_at (y ∷ b) c (taken x q.one o) q.is (record {
          other = taken y t.other o;
          begins = each_in (taken y) (beginnings b) y.offers t.other o t.begins (subst (λ (os : List (Offer C)). In o os) e.offers q.two_in);
          loads = ap (λ n. n + o.load) t.loads;
          costs = ap (λ z. k.plus z o.entry) t.costs;
          keeping = λ s. keeps_more y t.other o (t.keeping (keeps_before x q.one o s)) (omega (arith, t.loads, e.limit, keeps_last x q.one o s));
        })
    twin (swapped {x = x} {y = y} {a = a} e) few p c h =
        let q = each_out (taken x) (beginnings (y ∷ a)) x.offers c h in
        let r = each_out (taken y) (beginnings a) y.offers q.one q.one_in in
        let o = q.two in
        let u = r.two in
        let b = r.one in
        twin_at (y ∷ x ∷ a) c (taken x (taken y b u) o) (q.is ∙ ap (λ z. taken x z o) r.is) (record {
          other = taken y (taken x b o) u;
          begins = each_in (taken y) (beginnings (x ∷ a)) y.offers (taken x b o) u (each_in (taken x) (beginnings a) x.offers b o r.one_in q.two_in) r.two_in;
          loads = omega arith;
          costs = two_turned k laws (length a) (cost k b) o.entry u.entry (sum_of k a (λ s i. p s (inr (inr i))) b r.one_in) (omega arith) (p x (inl refl) o q.two_in) (p y (inr (inl refl)) u r.two_in);
          keeping = λ s.
              let last = keeps_last x (taken y b u) o s in
              let first = keeps_before y b u (keeps_before x (taken y b u) o s) in
              keeps_more y (taken x b o) u (keeps_more x b o first (omega arith)) (omega (arith, e));
        })
    twin (in_turn m n) few p c h =
        let t = twin m few p c h in
        let s = twin n (omega (arith, matched_length m)) (matched_priced m p) t.other t.begins in
        record { other = s.other; begins = s.begins; loads = s.loads ∙ t.loads; costs = s.costs ∙ t.costs; keeping = λ z. s.keeping (t.keeping z) }

    -- no choice of the one that keeps the limits is better than the best of the other
    no_better : (one other : List (Row C)) → length one ≤ most_entries → Priced k one → Matched one other → (c d : List (Taken C)) → In c (choices one) → T (keeps c) → Best k other d → NoDearer k (cost k d) (cost k c) × (cost k c ≡ cost k d → load d ≤ load c)
    no_better one other few p m c d h kept y =
        let t = twin (matched_aux m []) (few_reversed k one few) (priced_reversed k one p) c h in
        let held = t.keeping kept in (
          subst (λ (z : C). NoDearer k (cost k d) z) t.costs (y.cheapest t.other ∣ t.begins ∣₁ held),
          λ e. omega (arith, y.lightest t.other ∣ t.begins ∣₁ held (t.costs ∙ e), t.loads),
        )

    pub renumbered : IsSet C → (one other : List (Row C)) → Rows k one → Matched one other → (c d : List (Taken C)) → Best k one c → Best k other d → (cost k c ≡ cost k d) × (load c ≡ load d)
    renumbered set one other board m c d x y =
        let fewer : length other ≤ most_entries = omega (arith, board.few, matched_length m) in
        let p' = matched_priced m board.priced in
        ∥∥₁_elim x.choice (×_prop (set (cost k c) (cost k d)) (ℕ_set (load c) (load d))) (λ h. ∥∥₁_elim y.choice (×_prop (set (cost k c) (cost k d)) (ℕ_set (load c) (load d))) (λ i.
        let there = no_better one other board.few board.priced m c d h x.kept y in
        let back = no_better other one fewer p' (matched_back m) d c i y.kept x in
        let e = laws.same (cost k c) (cost k d) (choice_total k one board.few board.priced c h) (choice_total k other fewer p' d i) back.0 there.0 in
        (e, omega (arith, there.1 e, back.1 (sym e)))))
