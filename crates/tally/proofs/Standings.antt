-- What holds of each standing task.
use Rattle.std.proofs.Common.{◌≡◌, ℕ, zero, suc, ◌+◌, ◌-◌, ◌<◌, ◌≤◌, Bool, true, ◌⊎◌, List, [], ◌∷◌, ◌++◌, map, length, get_or, take, Some, None, Option, sym, refl, ap, ◌∙◌, subst, inl, inr, ⊎_elim, arith}
use Rattle.std.proofs.lemmas.Bool.{and_parts, cond_both}
use Rattle.board.specs.Tasks.{FiguresOfTask}
use Rattle.board.specs.Measures.{Among}
use Rattle.plans.specs.Choices.{In, Row}
use Rattle.plans.specs.Boards.{Standing, standing, due_of, sooner, put_by_deadline, by_deadline}
use Rattle.plans.specs.Promises.{Apart, Ports}
use Rattle.plans.proofs.Members.{map_out, none-some, same_some}
use Rattle.tally.specs.Boards.{each_task}
use Rattle.tally.proofs.Periods.{dues}

module _ (test : FiguresOfTask → Bool) where
  pub each_standing : (ts : List (Option FiguresOfTask)) (n : ℕ) (s : Standing) → each_task test ts ≡ true → In s (standing n ts) → test s.task ≡ true
  each_standing [] n s fit h = absurd h
  each_standing (None ∷ ts) n s fit h = each_standing ts (n + 1) s fit h
  each_standing (Some t ∷ ts) n s fit (inl e) = ap (λ (x : Standing). test x.task) e ∙ (and_parts (test t) (each_task test ts) fit).0
  each_standing (Some t ∷ ts) n s fit (inr h) = each_standing ts (n + 1) s (and_parts (test t) (each_task test ts) fit).1 h

-- what stands at a port
pub in_standing : (ts : List (Option FiguresOfTask)) (n i : ℕ) (t : FiguresOfTask) → get_or ts i None ≡ Some t → In (record { port = n + i; task = t }) (standing n ts)
in_standing [] n i t e = absurd (none-some refl e)
in_standing (None ∷ ts) n zero t e = absurd (none-some refl e)
in_standing (None ∷ ts) n (suc i) t e = let q : n + 1 + i ≡ n + suc i = omega arith in subst (λ m. In (record { port = m; task = t }) (standing (n + 1) ts)) q (in_standing ts (n + 1) i t e)
in_standing (Some u ∷ ts) n zero t e = let q : n + 0 ≡ n = omega arith in inl (ap (λ m. record { port = m; task = t }) q ∙ ap (λ (x : FiguresOfTask). record { port = n; task = x }) (same_some e refl))
in_standing (Some u ∷ ts) n (suc i) t e = let q : n + 1 + i ≡ n + suc i = omega arith in inr (subst (λ m. In (record { port = m; task = t }) (standing (n + 1) ts)) q (in_standing ts (n + 1) i t e))

pub standing_append : (ts us : List (Option FiguresOfTask)) (n : ℕ) → standing n (ts ++ us) ≡ standing n ts ++ standing (n + length ts) us
standing_append [] us n = let q : n ≡ n + 0 = omega arith in ap (λ m. standing m us) q
standing_append (None ∷ ts) us n = let q : n + 1 + length ts ≡ n + suc (length ts) = omega arith in standing_append ts us (n + 1) ∙ ap (λ m. standing (n + 1) ts ++ standing m us) q
standing_append (Some t ∷ ts) us n =
    let q : n + 1 + length ts ≡ n + suc (length ts) = omega arith in
    ap (λ (l : List Standing). record { port = n; task = t } ∷ l) (standing_append ts us (n + 1) ∙ ap (λ m. standing (n + 1) ts ++ standing m us) q)

pub own_standing : (ts : List (Option FiguresOfTask)) (n : ℕ) (s : Standing) → In s (standing n ts) → Among (due_of s) (dues ts)
own_standing [] n s h = absurd h
own_standing (None ∷ ts) n s h = own_standing ts (n + 1) s h
own_standing (Some t ∷ ts) n s (inl e) = inl (ap due_of e)
own_standing (Some t ∷ ts) n s (inr h) = inr (own_standing ts (n + 1) s h)

pub few_dues : (ts : List (Option FiguresOfTask)) → length (dues ts) ≤ length ts
few_dues [] = omega arith
few_dues (None ∷ ts) = omega (arith, few_dues ts)
few_dues (Some t ∷ ts) = omega (arith, few_dues ts)

pub few_standing : (ts : List (Option FiguresOfTask)) (n : ℕ) → length (standing n ts) ≤ length ts
few_standing [] n = omega arith
few_standing (None ∷ ts) n = omega (arith, few_standing ts (n + 1))
few_standing (Some t ∷ ts) n = omega (arith, few_standing ts (n + 1))

pub port_standing : (ts : List (Option FiguresOfTask)) (n : ℕ) (s : Standing) → In s (standing n ts) → (n ≤ s.port) × (s.port < n + length ts)
port_standing [] n s h = absurd h
port_standing (None ∷ ts) n s h = let r = port_standing ts (n + 1) s h in (omega arith, omega arith)
port_standing (Some t ∷ ts) n s (inl e) = let q = ap (λ (x : Standing). x.port) e in (omega arith, omega arith)
port_standing (Some t ∷ ts) n s (inr h) = let r = port_standing ts (n + 1) s h in (omega arith, omega arith)

-- and the task of its port is its own
pub at_standing : (ts : List (Option FiguresOfTask)) (n : ℕ) (s : Standing) → In s (standing n ts) → get_or ts (s.port - n) None ≡ Some s.task
at_standing [] n s h = absurd h
at_standing (None ∷ ts) n s h =
    let r = port_standing ts (n + 1) s h in
    let q : s.port - n ≡ suc (s.port - (n + 1)) = omega arith in
    ap (λ i. get_or (None ∷ ts) i None) q ∙ at_standing ts (n + 1) s h
at_standing (Some t ∷ ts) n s (inl e) =
    let q : s.port - n ≡ 0 = omega (arith, ap (λ (x : Standing). x.port) e) in
    ap (λ i. get_or (Some t ∷ ts) i None) q ∙ ap (λ (x : Standing). Some x.task) (sym e)
at_standing (Some t ∷ ts) n s (inr h) =
    let r = port_standing ts (n + 1) s h in
    let q : s.port - n ≡ suc (s.port - (n + 1)) = omega arith in
    ap (λ i. get_or (Some t ∷ ts) i None) q ∙ at_standing ts (n + 1) s h

-- each task stands at a port of its own
abbrev pub Distinct : List Standing → Type 0
Distinct [] = Unit {0}
Distinct (s ∷ ss) = ((t : Standing) → In t ss → s.port ≡ t.port → ⊥) × Distinct ss

pub distinct_standing : (ts : List (Option FiguresOfTask)) (n : ℕ) → Distinct (standing n ts)
distinct_standing [] n = tt
distinct_standing (None ∷ ts) n = distinct_standing ts (n + 1)
distinct_standing (Some t ∷ ts) n = ((λ s h e. let r = port_standing ts (n + 1) s h in omega arith), distinct_standing ts (n + 1))

put_out : (s : Standing) (ts : List Standing) (x : Standing) → In x (put_by_deadline s ts) → (x ≡ s) ⊎ In x ts
put_out s [] x = λ h. h
put_out s (t ∷ ts) x =
    cond_both (sooner s t) (s ∷ t ∷ ts) (t ∷ put_by_deadline s ts) (λ l. In x l → (x ≡ s) ⊎ In x (t ∷ ts)) (λ _ h. h)
    (λ _ h. ⊎_elim (λ e. inr (inl e)) (λ g. ⊎_elim inl (λ i. inr (inr i)) (put_out s ts x g)) h)

pub by_deadline_out : (ss : List Standing) (x : Standing) → In x (by_deadline ss) → In x ss
by_deadline_out [] x h = h
by_deadline_out (s ∷ ss) x h = ⊎_elim inl (λ g. inr (by_deadline_out ss x g)) (put_out s (by_deadline ss) x h)

distinct_put : (s : Standing) (ts : List Standing) → ((t : Standing) → In t ts → s.port ≡ t.port → ⊥) → Distinct ts → Distinct (put_by_deadline s ts)
distinct_put s [] apart d = ((λ t h. absurd h), tt)
distinct_put s (t ∷ ts) apart d =
    cond_both (sooner s t) (s ∷ t ∷ ts) (t ∷ put_by_deadline s ts) Distinct (λ _. (apart, d))
    (λ _. ((λ x h e. ⊎_elim (λ q. apart t (inl refl) (sym (e ∙ ap (λ (y : Standing). y.port) q))) (λ i. d.0 x i e) (put_out s ts x h)), distinct_put s ts (λ x h. apart x (inr h)) d.1))

pub distinct_by_deadline : (ss : List Standing) → Distinct ss → Distinct (by_deadline ss)
distinct_by_deadline [] d = tt
distinct_by_deadline (s ∷ ss) d = distinct_put s (by_deadline ss) (λ t h. d.0 t (by_deadline_out ss t h)) (distinct_by_deadline ss d.1)

-- what stands at an index, and apart from those before it
pub in_getD : {X : Type 0} (xs : List X) (i : ℕ) (d : X) → i < length xs → In (get_or xs i d) xs
in_getD [] i d h = absurd (omega arith)
in_getD (x ∷ xs) zero d h = inl refl
in_getD (x ∷ xs) (suc i) d h = inr (in_getD xs i d (omega arith))

pub distinct_before : (ss : List Standing) (i : ℕ) (d : Standing) → Distinct ss → i < length ss → (t : Standing) → In t (take i ss) → t.port ≡ (get_or ss i d).port → ⊥
distinct_before [] i d a h t j e = absurd (omega arith)
distinct_before (s ∷ ss) zero d a h t j e = absurd j
distinct_before (s ∷ ss) (suc i) d a h t (inl q) e = a.0 (get_or ss i d) (in_getD ss i d (omega arith)) (sym (ap (λ (x : Standing). x.port) q) ∙ e)
distinct_before (s ∷ ss) (suc i) d a h t (inr j) e = distinct_before ss i d a.1 (omega arith) t j e

-- the rows of standing tasks, of which each has its task's port
module _ {C : Type 0} (row : Standing → Row C) (ports : (s : Standing) → (row s).port ≡ s.port) where
  apart_rows : (ss : List Standing) → Distinct ss → Apart (map row ss)
  apart_rows [] d = tt
  apart_rows (s ∷ ss) d =
      ((λ r h e. let m = map_out row ss r h in d.0 m.0 m.1 (sym (ports s) ∙ e ∙ ap (λ (x : Row C). x.port) m.2 ∙ ports m.0)), apart_rows ss d.1)

  pub ports_rows : (ss : List Standing) → Distinct ss → ((s : Standing) → In s ss → (1 ≤ s.port) × (s.port ≤ 48)) → Ports (map row ss)
  ports_rows ss d within = record {
    apart = apart_rows ss d;
    in_range = λ r h. let m = map_out row ss r h in subst (λ n. (1 ≤ n) × (n ≤ 48)) (sym (ap (λ (x : Row C). x.port) m.2 ∙ ports m.0)) (within m.0 m.1);
  }
