-- The laws of a pair, from those of its parts.
use Rattle.std.specs.Prelude.{◌≡◌, ℕ, Bool, true, false, not, ◌&&◌, ◌||◌, T, ◌⊎◌}
use Rattle.std.proofs.Common.{subst, inl, inr}
use Rattle.cost.specs.Kinds.{Meaning, Sum, nothing, entry, both, Total, NoDearer, Cheaper, Laws, StrictLaws}
use Rattle.cost.specs.Models.{paired}
use Rattle.cost.specs.declared.pairs.Pair.{Pair}
use Rattle.cost.specs.Totals.{self}

known : (b : Bool) → T b ⊎ (T b → ⊥)
known true = inl tt
known false = inr (λ h. h)

and_both : (x y : Bool) → T x → T y → T (x && y)
and_both true y _ h = h
and_both false y h _ = h

-- x is `no dearer` of the first parts, y the same the other way round, z `no dearer` of the second parts
lex : (x y z : Bool) → T x → (T y → T z) → T (x && (not y || z))
lex true true z _ h = h tt
lex true false z _ _ = tt
lex false y z h _ = h

lex_first : (x y z : Bool) → T (x && (not y || z)) → T x
lex_first true y z _ = tt
lex_first false y z h = h

lex_second : (x y z : Bool) → T (x && (not y || z)) → T y → T z
lex_second true true z h _ = h
lex_second true false z _ k = absurd k
lex_second false y z h _ = absurd h

lex_either : (x y z w : Bool) → T x ⊎ T y → T z ⊎ T w → T (x && (not y || z)) ⊎ T (y && (not x || w))
lex_either true true z w _ h = h
lex_either true false z w _ _ = inl tt
lex_either false true z w _ _ = inr tt
lex_either false false z w h _ = h

module _ {A B : Type 0} where
  abbrev of_parts : A → B → Pair A B
  of_parts a b = record { first = a; second = b }

  same_parts : (a c : A) (b d : B) → a ≡ c → b ≡ d → of_parts a b ≡ of_parts c d
  same_parts a c b d p q = rw (p, q)

-- if a is no dearer than b, and yet b + c is no dearer than a + c, then b is no dearer than a
module _ {A : Type 0} (k : Meaning A) (strict : StrictLaws k) where
  no_cheaper : (a b c : A) → Total k a → Total k b → Total k c → Total k (k.plus a c) → Total k (k.plus b c) → NoDearer k a b → NoDearer k (k.plus b c) (k.plus a c) → NoDearer k b a
  no_cheaper a b c ta tb tc tac tbc h back = elim (known (k.under b a)) [
    | inl yes_b ↦ yes_b
    | inr not_b ↦ let less : Cheaper k a b = (h, λ e. not_b (subst (λ (x : A). T (k.under x a)) e (self k strict.laws a ta))) in
        let more : Cheaper k (k.plus a c) (k.plus b c) = strict.strict a b c ta tb tc tac tbc less in
        absurd (more.1 (strict.laws.same _ _ tac tbc more.0 back))
  ]

module _ {A B : Type 0} (s : Meaning A) (t : Meaning B) where
  first_sum : {n : ℕ} {p : Pair A B} → Sum (paired s t) n p → Sum s n p.first
  first_sum nothing = nothing
  first_sum (entry o) = entry o
  first_sum (both u v) = both (first_sum u) (first_sum v)

  second_sum : {n : ℕ} {p : Pair A B} → Sum (paired s t) n p → Sum t n p.second
  second_sum nothing = nothing
  second_sum (entry o) = entry o
  second_sum (both u v) = both (second_sum u) (second_sum v)

  -- the parts of a total are totals
  first_total : (p : Pair A B) → Total (paired s t) p → Total s p.first
  first_total p u = record { count = u.count; few = u.few; sum = first_sum u.sum }

  second_total : (p : Pair A B) → Total (paired s t) p → Total t p.second
  second_total p u = record { count = u.count; few = u.few; sum = second_sum u.sum }

  -- the order of a pair, out and in
  by_first : (p q : Pair A B) → NoDearer (paired s t) p q → NoDearer s p.first q.first
  by_first p q = lex_first (s.under p.first q.first) (s.under q.first p.first) (t.under p.second q.second)

  by_second : (p q : Pair A B) → NoDearer (paired s t) p q → NoDearer s q.first p.first → NoDearer t p.second q.second
  by_second p q = lex_second (s.under p.first q.first) (s.under q.first p.first) (t.under p.second q.second)

  by_both : (p q : Pair A B) → NoDearer s p.first q.first → (NoDearer s q.first p.first → NoDearer t p.second q.second) → NoDearer (paired s t) p q
  by_both p q = lex (s.under p.first q.first) (s.under q.first p.first) (t.under p.second q.second)

  pub pair_laws : StrictLaws s → Laws t → Laws (paired s t)
  pair_laws strict lt =
      let ls = strict.laws in
      let f = first_total in
      let g = second_total in
      record {
        priced = λ m o. and_both (s.prices m) (t.prices m) (ls.priced m o) (lt.priced m o);
        added = λ p q tp tq tpq.
            and_both (s.adds p.first q.first) (t.adds p.second q.second)
            (ls.added _ _ (f p tp) (f q tq) (f _ tpq)) (lt.added _ _ (g p tp) (g q tq) (g _ tpq));
        either = λ p q tp tq. lex_either _ _ _ _ (ls.either _ _ (f p tp) (f q tq)) (lt.either _ _ (g p tp) (g q tq));
        same = λ p q tp tq h k.
            let x = by_first p q h in
            let y = by_first q p k in
            same_parts _ _ _ _ (ls.same _ _ (f p tp) (f q tq) x y) (lt.same _ _ (g p tp) (g q tq) (by_second p q h y) (by_second q p k x));
        chain = λ p q r tp tq tr h k.
            let x = by_first p q h in
            let y = by_first q r k in
            by_both p r (ls.chain _ _ _ (f p tp) (f q tq) (f r tr) x y) (λ back.
            lt.chain _ _ _ (g p tp) (g q tq) (g r tr)
            (by_second p q h (ls.chain _ _ _ (f q tq) (f r tr) (f p tp) y back))
            (by_second q r k (ls.chain _ _ _ (f r tr) (f p tp) (f q tq) back x)));
        assoc = λ p q r tp tq tr tpq tqr left right.
            same_parts _ _ _ _
            (ls.assoc _ _ _ (f p tp) (f q tq) (f r tr) (f _ tpq) (f _ tqr) (f _ left) (f _ right))
            (lt.assoc _ _ _ (g p tp) (g q tq) (g r tr) (g _ tpq) (g _ tqr) (g _ left) (g _ right));
        comm = λ p q tp tq tpq tqp. same_parts _ _ _ _ (ls.comm _ _ (f p tp) (f q tq) (f _ tpq) (f _ tqp)) (lt.comm _ _ (g p tp) (g q tq) (g _ tpq) (g _ tqp));
        idle = λ p tp. same_parts _ _ _ _ (ls.idle _ (f p tp)) (lt.idle _ (g p tp));
        grows = λ p q r tp tq tr tpr tqr h.
            let x = by_first p q h in
            by_both ((paired s t).plus p r) ((paired s t).plus q r) (ls.grows _ _ _ (f p tp) (f q tq) (f r tr) (f _ tpr) (f _ tqr) x) (λ back.
            lt.grows _ _ _ (g p tp) (g q tq) (g r tr) (g _ tpr) (g _ tqr)
            (by_second p q h (no_cheaper s strict _ _ _ (f p tp) (f q tq) (f r tr) (f _ tpr) (f _ tqr) x back)));
      }
