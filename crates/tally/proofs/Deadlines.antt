-- Tasks by deadline: at other ports, only tasks of one deadline may change places.
use Rattle.std.proofs.Common.{◌≡◌, ℕ, ◌+◌, ◌<◌, ◌≤◌, Bool, true, false, cond, ◌&&◌, eqb, ltb, leb, List, [], ◌∷◌, Some, None, Option, sym, refl, ap, subst, inl, inr, arith}
use Rattle.std.proofs.lemmas.Bool.{ltb-true, ltb-false, leb-true, leb-false, eqb-true, le-leb, lt-leb, or_cases, or_parts, and_parts, cond-true, cond_both, cases_order, true≢false}
use Rattle.board.specs.Tasks.{FiguresOfTask}
use Rattle.cost.specs.Sums.{Reordered, no_items, same_first, first_two, by_way_of}
use Rattle.plans.specs.Boards.{Standing, standing, due_time, due_of, sooner, put_by_deadline, by_deadline}

-- the same tasks at other ports, where tasks of one deadline may have changed places
pub data Similar : List Standing → List Standing → Type 0 where
  nothing : Similar [] []
  more : {s t : Standing} {a b : List Standing} → s.task ≡ t.task → Similar a b → Similar (s ∷ a) (t ∷ b)
  turned : {s t : Standing} {a : List Standing} → due_of s ≡ due_of t → Similar (s ∷ t ∷ a) (t ∷ s ∷ a)
  onward : {a b c : List Standing} → Similar a b → Similar b c → Similar a c

self : (a : List Standing) → Similar a a
self [] = nothing
self (s ∷ a) = more refl (self a)

back : {a b : List Standing} → Similar a b → Similar b a
back nothing = nothing
back (more e r) = more (sym e) (back r)
back (turned e) = turned (sym e)
back (onward r q) = onward (back q) (back r)

cond_two : {A : Type 0} (b : Bool) (x y x' y' : A) (R : A → A → Type 0) → R x x' → R y y' → R (cond b x y) (cond b x' y')
cond_two true x y x' y' R f g = f
cond_two false x y x' y' R f g = g

-- a task before all those of its deadline or a later one, whatever their ports
abbrev ins : ℕ → Standing → List Standing → List Standing
ins d s [] = s ∷ []
ins d s (t ∷ ts) = cond (leb d (due_of t)) (s ∷ t ∷ ts) (t ∷ ins d s ts)

-- deadlines rise, from d on
Rises : ℕ → List Standing → Type 0
Rises d [] = Unit {0}
Rises d (s ∷ ss) = (d ≤ due_of s) × Rises (due_of s) ss

sooner_le : (s t : Standing) → sooner s t ≡ true → due_of s ≤ due_of t
sooner_le s t e = elim (or_cases (ltb (due_of s) (due_of t)) (eqb (due_of s) (due_of t) && leb s.port t.port) e) [
  | inl f ↦ omega (arith, ltb-true (due_of s) (due_of t) f)
  | inr f ↦ omega (arith, eqb-true (due_of s) (due_of t) (and_parts (eqb (due_of s) (due_of t)) (leb s.port t.port) f).0)
]

later_le : (s t : Standing) → sooner s t ≡ false → due_of t ≤ due_of s
later_le s t e = ltb-false (due_of s) (due_of t) (or_parts (ltb (due_of s) (due_of t)) (eqb (due_of s) (due_of t) && leb s.port t.port) e).0

rises_put : (s : Standing) (ts : List Standing) (d : ℕ) → d ≤ due_of s → Rises d ts → Rises d (put_by_deadline s ts)
unfolding Rises
rises_put s [] d low r = (low, tt)
rises_put s (t ∷ ts) d low r =
    cond_both (sooner s t) (s ∷ t ∷ ts) (t ∷ put_by_deadline s ts) (Rises d)
    (λ e. (low, (sooner_le s t e, r.1)))
    (λ e. (r.0, rises_put s ts (due_of t) (later_le s t e) r.1))

rises_all : (ss : List Standing) → Rises 0 (by_deadline ss)
unfolding Rises
rises_all [] = tt
rises_all (s ∷ ss) = rises_put s (by_deadline ss) 0 (omega arith) (rises_all ss)

-- it stands in front of what rises from its deadline on
ins_first : (s : Standing) (d n : ℕ) (ts : List Standing) → d ≤ n → Rises n ts → ins d s ts ≡ s ∷ ts
unfolding Rises
ins_first s d n [] h r = refl
ins_first s d n (t ∷ ts) h r = cond-true (leb d (due_of t)) (s ∷ t ∷ ts) (t ∷ ins d s ts) (le-leb d (due_of t) (omega arith))

-- the port decides only among tasks of one deadline
put_ins : (s : Standing) (ts : List Standing) (d : ℕ) → Rises d ts → Similar (put_by_deadline s ts) (ins (due_of s) s ts)
unfolding Rises
put_ins s [] d r = self (s ∷ [])
put_ins s (t ∷ ts) d r =
    cond_both (sooner s t) (s ∷ t ∷ ts) (t ∷ put_by_deadline s ts) (λ l. Similar l (ins (due_of s) s (t ∷ ts)))
    (λ e. subst (λ l. Similar (s ∷ t ∷ ts) l) (sym (cond-true (leb (due_of s) (due_of t)) (s ∷ t ∷ ts) (t ∷ ins (due_of s) s ts) (le-leb (due_of s) (due_of t) (sooner_le s t e)))) (self (s ∷ t ∷ ts)))
    (λ e. cond_both (leb (due_of s) (due_of t)) (s ∷ t ∷ ts) (t ∷ ins (due_of s) s ts) (λ l. Similar (t ∷ put_by_deadline s ts) l)
    (λ f.
    let low : due_of s ≤ due_of t = leb-true (due_of s) (due_of t) f in
    let same : due_of t ≡ due_of s = omega (arith, later_le s t e) in
    onward (more refl (put_ins s ts (due_of t) r.1)) (subst (λ l. Similar (t ∷ l) (s ∷ t ∷ ts)) (sym (ins_first s (due_of s) (due_of t) ts low r.1)) (turned same)))
    (λ f. more refl (put_ins s ts (due_of t) r.1)))

ins_same : (d : ℕ) (s t : Standing) → s.task ≡ t.task → (a : List Standing) → Similar (ins d s a) (ins d t a)
ins_same d s t e [] = more e nothing
ins_same d s t e (x ∷ a) = cond_two (leb d (due_of x)) (s ∷ x ∷ a) (x ∷ ins d s a) (t ∷ x ∷ a) (x ∷ ins d t a) Similar (more e (self (x ∷ a))) (more refl (ins_same d s t e a))

due_same : (s t : Standing) → s.task ≡ t.task → due_of s ≡ due_of t
due_same s t e = ap (λ (x : FiguresOfTask). due_time x.due) e

module _ (d : ℕ) (s : Standing) where
  turned_in : (x y : Standing) (a r : List Standing) (b c : Bool) → b ≡ c → due_of x ≡ due_of y →
      Similar (cond b (s ∷ x ∷ y ∷ a) (x ∷ cond c (s ∷ y ∷ a) (y ∷ r))) (cond c (s ∷ y ∷ x ∷ a) (y ∷ cond b (s ∷ x ∷ a) (x ∷ r)))
  turned_in x y a r true true e f = more refl (turned f)
  turned_in x y a r false false e f = turned f
  turned_in x y a r true false e f = absurd (true≢false e)
  turned_in x y a r false true e f = absurd (true≢false (sym e))

  ins_similar : {a b : List Standing} → Similar a b → Similar (ins d s a) (ins d s b)
  ins_similar nothing = self (s ∷ [])
  ins_similar (more {s = x} {t = y} {a = a} {b = b} e r) =
      subst (λ n. Similar (ins d s (x ∷ a)) (cond (leb d n) (s ∷ y ∷ b) (y ∷ ins d s b))) (due_same x y e)
      (cond_two (leb d (due_of x)) (s ∷ x ∷ a) (x ∷ ins d s a) (s ∷ y ∷ b) (y ∷ ins d s b) Similar (more refl (more e r)) (more e (ins_similar r)))
  ins_similar (turned {s = x} {t = y} {a = a} e) = turned_in x y a (ins d s a) (leb d (due_of x)) (leb d (due_of y)) (ap (leb d) e) e
  ins_similar (onward r q) = onward (ins_similar r) (ins_similar q)

-- two tasks may be put in either order
module _ (s t : Standing) where
  either_first : (a : List Standing) → Similar (cond (leb (due_of s) (due_of t)) (s ∷ t ∷ a) (t ∷ s ∷ a)) (cond (leb (due_of t) (due_of s)) (t ∷ s ∷ a) (s ∷ t ∷ a))
  either_first a = elim (cases_order (due_of s) (due_of t)) [
    | inl e ↦ rw (le-leb (due_of s) (due_of t) (omega arith), le-leb (due_of t) (due_of s) (omega arith)) (turned e)
    | inr (inl h) ↦ rw (le-leb (due_of s) (due_of t) (omega arith), lt-leb (due_of t) (due_of s) h) (self (s ∷ t ∷ a))
    | inr (inr h) ↦ rw (lt-leb (due_of s) (due_of t) h, le-leb (due_of t) (due_of s) (omega arith)) (self (t ∷ s ∷ a))
  ]

  ins_turned : (a : List Standing) → Similar (ins (due_of s) s (ins (due_of t) t a)) (ins (due_of t) t (ins (due_of s) s a))
  ins_turned [] = either_first []
  ins_turned (x ∷ a) = by (leb (due_of s) (due_of x)) (leb (due_of t) (due_of x)) refl refl (ins_turned a)
    where
      by : (b c : Bool) → leb (due_of s) (due_of x) ≡ b → leb (due_of t) (due_of x) ≡ c →
          Similar (ins (due_of s) s (ins (due_of t) t a)) (ins (due_of t) t (ins (due_of s) s a)) →
          Similar (ins (due_of s) s (cond c (t ∷ x ∷ a) (x ∷ ins (due_of t) t a))) (ins (due_of t) t (cond b (s ∷ x ∷ a) (x ∷ ins (due_of s) s a)))
      by true true p q r = rw (p, q) (either_first (x ∷ a))
      by true false p q r =
          let h : due_of s < due_of t = omega (arith, leb-true (due_of s) (due_of x) p, leb-false (due_of t) (due_of x) q) in
          rw (p, lt-leb (due_of t) (due_of s) h, q) (self (s ∷ x ∷ ins (due_of t) t a))
      by false true p q r =
          let h : due_of t < due_of s = omega (arith, leb-true (due_of t) (due_of x) q, leb-false (due_of s) (due_of x) p) in
          rw (lt-leb (due_of s) (due_of t) h, p, q) (self (t ∷ x ∷ ins (due_of s) s a))
      by false false p q r = rw (p, q) (more refl r)

by_due : List Standing → List Standing
by_due [] = []
by_due (s ∷ ss) = ins (due_of s) s (by_due ss)

by_deadline_due : (ss : List Standing) → Similar (by_deadline ss) (by_due ss)
unfolding by_due
by_deadline_due [] = nothing
by_deadline_due (s ∷ ss) = onward (put_ins s (by_deadline ss) 0 (rises_all ss)) (ins_similar (due_of s) s (by_deadline_due ss))

-- one task more, at another port
ins_more : (m n : ℕ) (t : FiguresOfTask) {a b : List Standing} → Similar a b → Similar (ins (due_time t.due) (record { port = m; task = t }) a) (ins (due_time t.due) (record { port = n; task = t }) b)
ins_more m n t {a} {b} r =
    let d = due_time t.due in
    onward (ins_similar d (record { port = m; task = t }) r) (ins_same d (record { port = m; task = t }) (record { port = n; task = t }) refl b)

shifted : (ts : List (Option FiguresOfTask)) (m n : ℕ) → Similar (by_due (standing m ts)) (by_due (standing n ts))
unfolding by_due
shifted [] m n = nothing
shifted (None ∷ ts) m n = shifted ts (m + 1) (n + 1)
shifted (Some t ∷ ts) m n = ins_more m n t (shifted ts (m + 1) (n + 1))

renumbered : {ts us : List (Option FiguresOfTask)} → Reordered ts us → (m n : ℕ) → Similar (by_due (standing m ts)) (by_due (standing n us))
unfolding by_due
renumbered no_items m n = nothing
renumbered (same_first {x = None} r) m n = renumbered r (m + 1) (n + 1)
renumbered (same_first {x = Some t} r) m n = ins_more m n t (renumbered r (m + 1) (n + 1))
renumbered (first_two {x = None} {y = None} {xs = ts}) m n = shifted ts (m + 1 + 1) (n + 1 + 1)
renumbered (first_two {x = None} {y = Some u} {xs = ts}) m n = ins_more (m + 1) n u (shifted ts (m + 1 + 1) (n + 1 + 1))
renumbered (first_two {x = Some t} {y = None} {xs = ts}) m n = ins_more m (n + 1) t (shifted ts (m + 1 + 1) (n + 1 + 1))
renumbered (first_two {x = Some t} {y = Some u} {xs = ts}) m n =
    onward (ins_turned (record { port = m; task = t }) (record { port = m + 1; task = u }) (by_due (standing (m + 1 + 1) ts)))
    (ins_more (m + 1) n u (ins_more m (n + 1) t (shifted ts (m + 1 + 1) (n + 1 + 1))))
renumbered (by_way_of r q) m n = onward (renumbered r m m) (renumbered q m n)

pub by_deadline_similar : {ts us : List (Option FiguresOfTask)} → Reordered ts us → (m n : ℕ) → Similar (by_deadline (standing m ts)) (by_deadline (standing n us))
by_deadline_similar {ts} {us} r m n = onward (by_deadline_due (standing m ts)) (onward (renumbered r m n) (back (by_deadline_due (standing n us))))
