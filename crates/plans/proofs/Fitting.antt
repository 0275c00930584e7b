-- The smallest loads keep the limits exactly if some choice does; and what that says of the answer of planning.
use Rattle.std.proofs.Common.{◌≡◌, ℕ, ◌+◌, ◌-◌, ◌<◌, ◌≤◌, true, ◌&&◌, T, ltb, leb, ◌⊎◌, List, [], ◌∷◌, length, Some, None, Ok, Option, sym, refl, ap, ◌∙◌, subst, inl, inr, ⊎_elim, arith, ltb→lt, nltb→le}
use mathlib.Core.Logic.{∥∥₁_elim}
use mathlib.Core.HLevel.{⊥_prop}
use mathlib.Core.List.{reverse_aux}
use lib.Dec.{not_T}
use Rattle.board.specs.declared.faults.Fault.{Fault}
use Rattle.board.specs.declared.faults.Fault.TheVariants.{ShortBuffer, NoneFits, ListFull}
use Rattle.cost.specs.Kinds.{Meaning, Laws}
use Rattle.plans.specs.declared.figures.Figures.{Figures}
use Rattle.plans.specs.Choices.{In, Offer, Row, Taken, taken, beginnings, choices, load, keeps, smallest, fits, open_to}
use Rattle.plans.specs.Fronts.{front}
use Rattle.plans.specs.Places.{or_else, sizes}
use Rattle.plans.specs.Plans.{short_buffer, none_fits, unless, figures, list_full, refusal, planned}
use Rattle.plans.specs.Promises.{Rows, admits, PlanOf, NoChoice, number_of}
use Rattle.plans.proofs.Members.{and_in, and_left, and_right, each_in, each_out, only, cond_by, cond_no, none-some}
use Rattle.plans.proofs.Opening.{smallest_of, open_keeps, open_fits, open_in, prefix_open}
use Rattle.plans.proofs.Choosing.{costs_best, loads_best, chosen_best}

-- an open beginning of the rows that are done
record Begun {C : Type 0} (done later : List (Row C)) : Type 0 where
  beginning : List (Taken C)
  begins : In beginning (beginnings done)
  opens : T (open_to later beginning)

-- a choice that keeps every limit
pub record Possible {C : Type 0} (rows : List (Row C)) : Type 0 where
  pub choice : List (Taken C)
  pub chosen : In choice (choices rows)
  pub kept : T (keeps choice)

module _ {C : Type 0} where
  -- an open choice begins with an open beginning
  shorter : (later done : List (Row C)) → Begun (reverse_aux later done) [] → Begun done later
  shorter [] done b = b
  shorter (row ∷ later) done b =
      let a = shorter later (row ∷ done) b in
      let e = each_out (taken row) (beginnings done) row.offers a.beginning a.begins in
      record { beginning = e.one; begins = e.one_in; opens = prefix_open row later e.one e.two e.two_in (subst (λ (x : List (Taken C)). T (open_to later x)) e.is a.opens) }

  -- an open beginning goes on to an open choice, with the smallest loads
  longer : (later done : List (Row C)) → ((r : Row C) → In r later → (o : Offer C) × In o r.offers) → Begun done later → Begun (reverse_aux later done) []
  longer [] done offered b = b
  longer (row ∷ later) done offered b =
      let some = offered row (inl refl) in
      let l = smallest_of row.offers some.0 some.1 in
      let o = l.0 in
      let sum = load b.beginning in
      let room : T (admits row later (sum + o.load)) = subst (λ (n : ℕ). T (admits row later (sum + n))) (sym l.2) (open_fits (row ∷ later) b.beginning b.opens) in
      longer later (row ∷ done) (λ r h. offered r (inr h)) (record {
        beginning = taken row b.beginning o;
        begins = each_in (taken row) (beginnings done) row.offers b.beginning o b.begins l.1;
        opens = open_in row later b.beginning o (open_keeps (row ∷ later) b.beginning b.opens) room;
      })

  pub possible_fits : (rows : List (Row C)) (c : List (Taken C)) → In c (choices rows) → T (keeps c) → T (fits 0 rows)
  possible_fits rows c h t =
      let b = shorter rows [] (record { beginning = c; begins = h; opens = and_in (keeps c) true t tt }) in
      subst (λ (x : List (Taken C)). T (open_to rows x)) (only b.begins) b.opens

  pub fits_possible : (rows : List (Row C)) → ((r : Row C) → In r rows → (o : Offer C) × In o r.offers) → T (fits 0 rows) → Possible rows
  fits_possible rows offered t =
      let c = longer rows [] offered (record { beginning = []; begins = inl refl; opens = t }) in
      record { choice = c.beginning; chosen = c.begins; kept = open_keeps [] c.beginning c.opens }

  -- 32 is refused exactly if the smallest loads do not fit
  pub none_fits_by : (rows : List (Row C)) (n : ℕ) → ((none_fits n rows ≡ None) × T (fits n rows)) ⊎ ((port : ℕ) × (none_fits n rows ≡ Some (NoneFits port)) × (T (fits n rows) → ⊥))
  none_fits_by [] n = inl (refl, tt)
  none_fits_by (row ∷ later) n =
      let m = n + smallest row.offers in
      cond_by (leb m row.limit) (none_fits m later) (Some (NoneFits row.port))
      (λ r. ((r ≡ None) × T (leb m row.limit && fits m later)) ⊎ ((port : ℕ) × (r ≡ Some (NoneFits port)) × (T (leb m row.limit && fits m later) → ⊥)))
      (λ t. ⊎_elim (λ a. inl (a.0, and_in (leb m row.limit) (fits m later) t a.1)) (λ a. inr (a.0, a.1, λ u. a.2 (and_right (leb m row.limit) (fits m later) u))) (none_fits_by later m))
      (λ t. inr (row.port, refl, λ u. t (and_left (leb m row.limit) (fits m later) u)))

module _ {C : Type 0} (k : Meaning C) where
  -- 33 is refused exactly if the fronts do not fit the room
  pub list_full_by : (room : ℕ) (done later : List (Row C)) → ((list_full k room done later ≡ None) × (sizes k done later ≤ room)) ⊎ ((port : ℕ) × (list_full k room done later ≡ Some (ListFull port)) × (room < sizes k done later))
  list_full_by room done [] = inl (refl, omega arith)
  list_full_by room done (row ∷ later) =
      let n = length (front k (row ∷ done) later) in
      let rest = sizes k (row ∷ done) later in
      cond_by (ltb room n) (Some (ListFull row.port)) (list_full k (room - n) (row ∷ done) later)
      (λ r. ((r ≡ None) × (n + rest ≤ room)) ⊎ ((port : ℕ) × (r ≡ Some (ListFull port)) × (room < n + rest)))
      (λ t. inr (row.port, refl, omega (arith, ltb→lt room n t)))
      (λ t. let le = nltb→le room n (not_T (ltb room n) t) in
      ⊎_elim (λ a. inl (a.0, omega (arith, a.1))) (λ a. inr (a.0, a.1, omega (arith, a.2))) (list_full_by (room - n) (row ∷ done) later))

  long_enough : (buffer : ℕ) → 48 ≤ buffer → short_buffer buffer ≡ None
  long_enough buffer h = cond_no (ltb buffer 48) (Some ShortBuffer) None (λ t. omega (arith, ltb→lt buffer 48 t))

  -- the answer by what the three tests say
  answer_by : (room buffer : ℕ) (rows : List (Row C)) (a b c : Option Fault) → short_buffer buffer ≡ a → none_fits 0 rows ≡ b → list_full k room [] rows ≡ c →
      planned k room buffer rows ≡ unless (or_else a (or_else b c)) (figures k rows)
  answer_by room buffer rows a b c e f g =
      ap (λ x. unless (or_else x (or_else (none_fits 0 rows) (list_full k room [] rows))) (figures k rows)) e
      ∙ ap (λ x. unless (or_else a (or_else x (list_full k room [] rows))) (figures k rows)) f
      ∙ ap (λ x. unless (or_else a (or_else b x)) (figures k rows)) g

  module _ (rows : List (Row C)) (room buffer : ℕ) (long : 48 ≤ buffer) where
    -- what is answered where the smallest loads do not fit, and where they do
    refused_32 : (port : ℕ) → none_fits 0 rows ≡ Some (NoneFits port) → number_of (planned k room buffer rows) ≡ 32
    refused_32 port e = ap number_of (answer_by room buffer rows None (Some (NoneFits port)) (list_full k room [] rows) (long_enough buffer long) e refl)

    not_32 : none_fits 0 rows ≡ None → number_of (planned k room buffer rows) ≡ 32 → ⊥
    not_32 e n = ⊎_elim
        (λ a. omega (arith, n, ap number_of (answer_by room buffer rows None None None (long_enough buffer long) e a.0)))
        (λ a. omega (arith, n, ap number_of (answer_by room buffer rows None None (Some (ListFull a.0)) (long_enough buffer long) e a.1)))
        (list_full_by room [] rows)

    pub none_fits_exactly : Rows k rows → (number_of (planned k room buffer rows) ≡ 32 → NoChoice rows) × (NoChoice rows → number_of (planned k room buffer rows) ≡ 32)
    none_fits_exactly board = ⊎_elim
        (λ a. let some = fits_possible rows board.offered a.1 in
        ((λ n. absurd (not_32 a.0 n)), (λ no_choice. absurd (no_choice some.choice ∣ some.chosen ∣₁ some.kept))))
        (λ a. ((λ n c h t. ∥∥₁_elim h ⊥_prop (λ i. a.2 (possible_fits rows c i t))), (λ no_choice. refused_32 a.0 a.1)))
        (none_fits_by rows 0)

  -- a plan is given only where no refusal applies
  given_by : (r : Option Fault) (f g : Figures C) → unless r f ≡ Ok g → (r ≡ None) × (f ≡ g)
  given_by None f g e = (refl, cc)
  given_by (Some fault) f g e = let z : ◌≡◌ {A = ℕ} 0 1 = cc in absurd (omega arith)

  no_first : {X : Type 0} (a b : Option X) → or_else a b ≡ None → a ≡ None
  no_first None b e = refl
  no_first (Some x) b e = e

  no_second : {X : Type 0} (a b : Option X) → or_else a b ≡ None → b ≡ None
  no_second None b e = e
  no_second (Some x) b e = absurd (none-some e refl)

  pub plans_best : Laws k → (rows : List (Row C)) → Rows k rows → (room buffer : ℕ) (f : Figures C) → planned k room buffer rows ≡ Ok f → PlanOf k rows f
  plans_best laws rows board room buffer f e =
      let given = given_by (refusal k room buffer rows) (figures k rows) f e in
      let fit : none_fits 0 rows ≡ None = no_first (none_fits 0 rows) (list_full k room [] rows) (no_second (short_buffer buffer) (or_else (none_fits 0 rows) (list_full k room [] rows)) given.0) in
      let some = fits_possible rows board.offered (⊎_elim (λ a. a.1) (λ a. absurd (none-some fit a.1)) (none_fits_by rows 0)) in
      let c = some.choice in
      let h = some.chosen in
      let t = some.kept in
      record {
        best = chosen_best k laws rows board c h t;
        costs = sym (ap (λ (g : Figures C). g.cost) given.1) ∙ costs_best k laws rows board c h t;
        loads = sym (ap (λ (g : Figures C). g.load) given.1) ∙ loads_best k laws rows board c h t;
      }
