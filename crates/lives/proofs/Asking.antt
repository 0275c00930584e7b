-- What is promised of the answers to a question, for either rule.
use Rattle.std.proofs.Common.{◌≡◌, ℕ, ◌≤◌, Bool, true, false, cond, not, List, length, Some, None, Result, sym, refl, ap, ◌∙◌, subst, arith}
use Rattle.std.proofs.lemmas.Bool.{true≢false}
use Rattle.board.specs.declared.faults.Fault.{Fault}
use Rattle.board.specs.declared.faults.Fault.TheVariants.{BadSetting}
use Rattle.board.specs.Processors.{ProcessorFigures, between}
use Rattle.cost.specs.Kinds.{Meaning, Laws}
use Rattle.plans.specs.declared.figures.Figures.{Figures}
use Rattle.plans.specs.Choices.{Row}
use Rattle.plans.specs.Plans.{planned, list_after, levels_after}
use Rattle.plans.specs.Promises.{Rows, Ports, Matched}
use Rattle.tally.specs.Tally.{Tally, new_tally}
use Rattle.tally.specs.Boards.{Match}
use Rattle.tally.specs.Books.{BookFigures, book_figures}
use Rattle.tally.specs.Plans.{at_capacity, unless_declined}
use Rattle.tally.specs.Lent.{Lent, LentCall, Leaves}
use Rattle.tally.specs.Promises.{Promised, Agree}
use Rattle.tally.proofs.Rows.{periodic_fits, sporadic_fits, periodic_ports, sporadic_ports}
use Rattle.tally.proofs.Periodic.{periodic_matched}
use Rattle.tally.proofs.Sporadic.{sporadic_matched}
use Rattle.tally.proofs.Promising.{promised, agree}
use Rattle.lives.specs.Rules.{Rule, periodic, sporadic, rows_of, Fit}
use Rattle.lives.specs.declared.calls.Question.{Question}
use Rattle.lives.specs.declared.calls.Question.TheVariants.{Plan, Trial}
use Rattle.lives.specs.Lives.{lived, asked_book, asked_able, asked_answer, Life}

-- what holds of a rule: the rows of its books can be planned, and tallies that match have matching rows
record Ruled {C : Type 0} (k : Meaning C) (rule : Rule) : Type 0 where
  rows : (b : BookFigures) → Fit rule b → Rows k (rows_of rule k b)
  ports : (b : BookFigures) → Fit rule b → Ports (rows_of rule k b)
  at : (b : BookFigures) (capacity : ℕ) → Fit rule b → Fit rule (at_capacity b capacity)
  matched : (p : ProcessorFigures) (t u : Tally) → Match t u → Fit rule (book_figures p t) → Matched (rows_of rule k (book_figures p t)) (rows_of rule k (book_figures p u))

ruled : {C : Type 0} (k : Meaning C) (rule : Rule) → Ruled k rule
ruled k periodic = record {
  rows = λ b fit. periodic_fits k b.processor b.tally fit.few fit.processor fit.tasks;
  ports = λ b fit. periodic_ports k b.processor b.tally fit.few;
  at = λ b capacity fit. record { processor = fit.processor; few = fit.few; tasks = fit.tasks };
  matched = λ p t u m fit. periodic_matched k p t u m fit.tasks;
}
ruled k sporadic = record {
  rows = λ b fit. sporadic_fits k b.processor b.tally fit.few fit.processor fit.tasks;
  ports = λ b fit. sporadic_ports k b.processor b.tally fit.few;
  at = λ b capacity fit. record { processor = fit.processor; few = fit.few; tasks = fit.tasks };
  matched = λ p t u m fit. sporadic_matched k p t u m;
}

module _ {C : Type 0} (k : Meaning C) (laws : Laws k) (rule : Rule) where
  abbrev rows : BookFigures → List (Row C)
  rows b = rows_of rule k b

  abbrev holds : Ruled k rule
  holds = ruled k rule

  plan_promised : (b : BookFigures) → Fit rule b → (room buffer : ℕ) (found : List ℕ) → Promised k (rows b) (48 ≤ buffer) (planned k room buffer (rows b)) (levels_after k (rows b) (planned k room buffer (rows b)) found)
  plan_promised b fit room buffer found = promised k laws (rows b) (holds.rows b fit) (holds.ports b fit) room buffer found

  -- the table declines the trial's capacity, or it is planned
  trial_promised : (b : BookFigures) → Fit rule b → (room buffer : ℕ) (found : List ℕ) (x : Bool) →
      let r = unless_declined (cond (not x) (Some BadSetting) None) (planned k room buffer (rows b)) in
      Promised k (rows b) ((48 ≤ buffer) × (x ≡ true)) r (levels_after k (rows b) r found)
  trial_promised b fit room buffer found true = let x = plan_promised b fit room buffer found in record { given = x.given; none_fits = λ a. x.none_fits a.0; only_then = λ a. x.only_then a.0 }
  trial_promised b fit room buffer found false = record {
    given = λ f e. absurd (let z : ◌≡◌ {A = ℕ} 0 1 = cc in omega arith);
    none_fits = λ a. absurd (true≢false (sym a.1));
    only_then = λ a. absurd (true≢false (sym a.1));
  }

  asked_promised : (b : BookFigures) → Fit rule b → (q : Question) (room buffer : ℕ) (found : List ℕ) →
      Promised k (rows (asked_book b q)) (asked_able q buffer) (asked_answer k rows b q room buffer) (levels_after k (rows (asked_book b q)) (asked_answer k rows b q room buffer) found)
  asked_promised b fit Plan room buffer found = plan_promised b fit room buffer found
  asked_promised b fit (Trial capacity) room buffer found = trial_promised (at_capacity b capacity) (holds.at b capacity fit) room buffer found (between 1 1000 capacity)

  -- two books of matching tallies
  module _ (set : IsSet C) (p : ProcessorFigures) (room buffer room' buffer' : ℕ) where
    plans_agree : (t u : Tally) → Match t u → Fit rule (book_figures p t) → Fit rule (book_figures p u) → Agree (planned k room buffer (rows (book_figures p t))) (planned k room' buffer' (rows (book_figures p u)))
    plans_agree t u m fit fit' = agree k laws set (rows (book_figures p t)) (rows (book_figures p u)) (holds.rows (book_figures p t) fit) (holds.rows (book_figures p u) fit') (holds.matched p t u m fit) room buffer room' buffer'

    unless_agree : (x : Bool) (r s : Result (Figures C) Fault) → Agree r s → Agree (unless_declined (cond (not x) (Some BadSetting) None) r) (unless_declined (cond (not x) (Some BadSetting) None) s)
    unless_agree true r s a f g e h = a f g e h
    unless_agree false r s a f g e h = absurd (let z : ◌≡◌ {A = ℕ} 0 1 = cc in omega arith)

    asked_agree : (t u : Tally) → Match t u → (q : Question) → Fit rule (book_figures p t) → Fit rule (book_figures p u) → Agree (asked_answer k rows (book_figures p t) q room buffer) (asked_answer k rows (book_figures p u) q room' buffer')
    asked_agree t u m Plan fit fit' = plans_agree t u m fit fit'
    asked_agree t u m (Trial capacity) fit fit' =
        let b = book_figures p t in
        let c = book_figures p u in
        unless_agree (between 1 1000 capacity) (planned k room buffer (rows (at_capacity b capacity))) (planned k room' buffer' (rows (at_capacity c capacity)))
        (plans_agree (at_capacity b capacity).tally (at_capacity c capacity).tally (record { capacity = refl; clock = m.clock; tasks = m.tasks }) (holds.at b capacity fit) (holds.at c capacity fit'))

  module _ (p : ProcessorFigures) (calls : List LentCall) (q : Question) (lent : Lent C) (book : BookFigures) (r : Result (Figures C) Fault) (left : Lent C) where
    -- a book that has followed the calls, and is then asked
    pub whole_life : (before : BookFigures) → Fit rule before → before ≡ lived p calls → book ≡ before → (found : Lent C) → Leaves k rows (book_figures p new_tally) calls lent found →
        length found.list ≡ length lent.list → length found.levels ≡ length lent.levels →
        r ≡ asked_answer k rows before q (length found.list) (length found.levels) → left.list ≡ list_after k (rows (asked_book before q)) r found.list left.list → left.levels ≡ levels_after k (rows (asked_book before q)) r found.levels →
        Life k rows p calls q lent book r left
    whole_life before fit is same found followed places bytes answer listed leveled =
        let b = lived p calls in
        let asked = rows (asked_book b q) in
        let room = length lent.list in
        let buffer = length lent.levels in
        let defined = asked_answer k rows b q room buffer in
        let answered : r ≡ defined = answer ∙ ap (λ x. asked_answer k rows x q (length found.list) (length found.levels)) is ∙ ap (λ n. asked_answer k rows b q n (length found.levels)) places ∙ ap (λ n. asked_answer k rows b q room n) bytes in
        let levels_are : left.levels ≡ levels_after k asked r found.levels = leveled ∙ ap (λ x. levels_after k (rows (asked_book x q)) r found.levels) is in
        record {
          stands = same ∙ is;
          found = found;
          followed = followed;
          places = places;
          bytes = bytes;
          answered = answered;
          promised = subst (λ s. Promised k asked (asked_able q buffer) s left.levels) (sym answered) (subst (λ ls. Promised k asked (asked_able q buffer) defined ls) (sym (levels_are ∙ ap (λ s. levels_after k asked s found.levels) answered)) (asked_promised b (subst (λ x. Fit rule x) is fit) q room buffer found.levels));
          list = listed ∙ ap (λ x. list_after k (rows (asked_book x q)) r found.list left.list) is;
          levels = levels_are;
        }

    -- and another
    pub lives_agree : IsSet C → Life k rows p calls q lent book r left → Fit rule book → (others : List LentCall) (other_lent : Lent C) (other_book : BookFigures) (s : Result (Figures C) Fault) (other_left : Lent C) →
        Life k rows p others q other_lent other_book s other_left → Fit rule other_book → Match (lived p calls).tally (lived p others).tally → Agree r s
    lives_agree set one fit others other_lent other_book s other_left other fit' m f g e h =
        asked_agree set p (length lent.list) (length lent.levels) (length other_lent.list) (length other_lent.levels) (lived p calls).tally (lived p others).tally m q (subst (λ x. Fit rule x) one.stands fit) (subst (λ x. Fit rule x) other.stands fit') f g (sym one.answered ∙ e) (sym other.answered ∙ h)
