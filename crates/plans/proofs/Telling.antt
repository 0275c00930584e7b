-- The levels buffer after a plan tells the level of each row by its port.
use Rattle.std.proofs.Common.{◌≡◌, ℕ, ◌+◌, ◌-◌, ◌≤◌, T, eqb, List, [], ◌∷◌, map, reverse, length, drop, Some, None, Ok, sym, refl, ap, ◌∙◌, subst, inl, inr, ⊎_elim, arith, eqb→eq}
use mathlib.Core.Logic.{∥∥₁_elim}
use mathlib.Core.List.{reverse_aux}
use native.Mathlib.Nat.{ℕ_set}
use lib.Dec.{eqb_refl}
use Rattle.std.specs.List.{range_with_len}
use Rattle.std.proofs.lemmas.List.{get_or_append_left}
use Rattle.std.proofs.lemmas.List.FromFn.{length-map-range_with_len, get_or-map-range_with_len}
use Rattle.cost.specs.Kinds.{Meaning, Laws}
use Rattle.plans.specs.declared.figures.Figures.{Figures}
use Rattle.plans.specs.Choices.{In, Row, Taken, taken, beginnings}
use Rattle.plans.specs.Places.{chosen}
use Rattle.plans.specs.Plans.{level_at, level_byte, planned}
use Rattle.plans.specs.Promises.{Rows, Apart, Ports, byte_of}
use Rattle.plans.proofs.Members.{cond_yes, cond_no, each_out, only, reverse_out}
use Rattle.plans.proofs.Fitting.{plans_best}

module _ {C : Type 0} where
  apart_aux : (xs ys : List (Row C)) → Apart xs → Apart ys → ((x y : Row C) → In x xs → In y ys → x.port ≡ y.port → ⊥) → Apart (reverse_aux xs ys)
  apart_aux [] ys ax ay cross = ay
  apart_aux (x ∷ xs) ys ax ay cross =
      apart_aux xs (x ∷ ys) ax.1 ((λ y h e. cross x y (inl refl) h e), ay)
      (λ u v i j e. ⊎_elim (λ is. ax.0 u i (sym (e ∙ ap (λ (r : Row C). r.port) is))) (λ h. cross u v (inr i) h e) j)

  pub apart_reverse : (rows : List (Row C)) → Apart rows → Apart (reverse rows)
  apart_reverse rows a = apart_aux rows [] a tt (λ x y i j e. j)

  -- a beginning takes only rows that are done
  row_done : (done : List (Row C)) (b : List (Taken C)) → In b (beginnings done) → (t : Taken C) → In t b → In t.row done
  row_done [] b h t i = subst (In t) (only h) i
  row_done (row ∷ done) b h t i =
      let e = each_out (taken row) (beginnings done) row.offers b h in
      ⊎_elim (λ is. inl (ap (λ (x : Taken C). x.row) is)) (λ j. inr (row_done done e.one e.one_in t j)) (subst (In t) e.is i)

  pub level_told : (done : List (Row C)) → Apart done → (b : List (Taken C)) → In b (beginnings done) → (t : Taken C) → In t b → level_at b t.row.port ≡ Some t.offer.level
  level_told [] a b h t i = absurd (subst (In t) (only h) i)
  level_told (row ∷ done) a b h t i =
      let e = each_out (taken row) (beginnings done) row.offers b h in
      let o = e.two in
      let port = t.row.port in
      ap (λ (x : List (Taken C)). level_at x port) e.is
      ∙ ⊎_elim
      (λ is. cond_yes (eqb row.port port) (Some o.level) (level_at e.one port) (subst (λ (x : Taken C). T (eqb row.port x.row.port)) (sym is) (eqb_refl row.port)) ∙ ap (λ (x : Taken C). Some x.offer.level) (sym is))
      (λ j. cond_no (eqb row.port port) (Some o.level) (level_at e.one port) (λ s. a.0 t.row (row_done done e.one e.one_in t j) (eqb→eq row.port port s)) ∙ level_told done a.1 e.one e.one_in t j)
      (subst (In t) e.is i)

  pub level_none : (done : List (Row C)) (port : ℕ) → ((r : Row C) → In r done → r.port ≡ port → ⊥) → (b : List (Taken C)) → In b (beginnings done) → level_at b port ≡ None
  level_none [] port none b h = ap (λ (x : List (Taken C)). level_at x port) (only h)
  level_none (row ∷ done) port none b h =
      let e = each_out (taken row) (beginnings done) row.offers b h in
      ap (λ (x : List (Taken C)). level_at x port) e.is
      ∙ cond_no (eqb row.port port) (Some e.two.level) (level_at e.one port) (λ s. none row (inl refl) (eqb→eq row.port port s))
      ∙ level_none done port (λ r i. none r (inr i)) e.one e.one_in

module _ {C : Type 0} (k : Meaning C) (rows : List (Row C)) (f : Figures C) (found : List ℕ) where
  -- the byte of a port
  byte_is : (port : ℕ) → 1 ≤ port → port ≤ 48 → byte_of k rows f found port ≡ level_byte (level_at (chosen k rows) port)
  byte_is port low high =
      let byte = λ (p : ℕ). level_byte (level_at (chosen k rows) p) in
      let new = map byte (range_with_len 1 48) in
      get_or_append_left new (drop (0 + length new) found) 0 (port - 1) (omega (arith, length-map-range_with_len byte 1 48))
      ∙ get_or-map-range_with_len byte 1 48 (port - 1) port 0 (omega arith) (omega arith)

  pub levels_told : Laws k → Rows k rows → Ports rows → (room buffer : ℕ) → planned k room buffer rows ≡ Ok f →
      ((t : Taken C) → In t (chosen k rows) → byte_of k rows f found t.row.port ≡ t.offer.level)
      × ((port : ℕ) → 1 ≤ port → port ≤ 48 → ((r : Row C) → In r rows → r.port ≡ port → ⊥) → byte_of k rows f found port ≡ 255)
  levels_told laws board ports room buffer e =
      let choice = (plans_best k laws rows board room buffer f e).best.choice in (
        (λ t i. ∥∥₁_elim choice (ℕ_set (byte_of k rows f found t.row.port) t.offer.level) (λ h.
            let within = ports.in_range t.row (reverse_out rows t.row (row_done (reverse rows) (chosen k rows) h t i)) in
            byte_is t.row.port within.0 within.1 ∙ ap level_byte (level_told (reverse rows) (apart_reverse rows ports.apart) (chosen k rows) h t i))),
        (λ port low high none. ∥∥₁_elim choice (ℕ_set (byte_of k rows f found port) 255) (λ h.
            byte_is port low high ∙ ap level_byte (level_none (reverse rows) port (λ r i. none r (reverse_out rows r i)) (chosen k rows) h))),
      )
