-- The plan is a best choice.
use Rattle.std.proofs.Common.{◌≡◌, ◌≤◌, true, T, ◌⊎◌, List, [], ◌∷◌, reverse, length, sym, refl, ap, ◌∙◌, subst, inl, inr, ⊎_elim, arith}
use mathlib.Core.Logic.{∥∥₁_elim}
use native.Mathlib.Bridge.{le_prop}
use lib.Dec.{T_prop}
use Rattle.cost.specs.Kinds.{Meaning, most_entries, Laws, NoDearer}
use Rattle.plans.specs.Choices.{In, Row, Taken, choices, load, keeps}
use Rattle.plans.specs.Fronts.{Pair, cost, pair, front}
use Rattle.plans.specs.Places.{cheapest, best, chosen}
use Rattle.plans.specs.Promises.{Priced, Rows, Ahead, Falls, Best}
use Rattle.plans.proofs.Members.{and_in}
use Rattle.plans.proofs.Opening.{open_keeps}
use Rattle.plans.proofs.Ordering.{Good, no_heavier, no_dearer, ahead_dearer, ahead_under}
use Rattle.plans.proofs.Reaching.{few_reversed, priced_reversed, choice_total, front_falls, front_good, front_covers}
use Rattle.plans.proofs.Backwards.{Back, back_finds}

module _ {C : Type 0} (k : Meaning C) where
  cheapest_in : (ps : List (Pair C)) (p : Pair C) → In p ps → In (cheapest k ps) ps
  cheapest_in [] p h = absurd h
  cheapest_in (q ∷ ps) p h = inl refl

  cheapest_ahead : (ps : List (Pair C)) → Falls k ps → (p : Pair C) → In p ps → (p ≡ cheapest k ps) ⊎ Ahead k (cheapest k ps) p
  cheapest_ahead [] f p h = absurd h
  cheapest_ahead (q ∷ ps) f p (inl e) = inl e
  cheapest_ahead (q ∷ ps) f p (inr h) = inr (f.0 p h)

  module _ (laws : Laws k) (rows : List (Row C)) (board : Rows k rows) where
    few_done : length (reverse rows) ≤ most_entries
    few_done = few_reversed k rows board.few

    priced_done : Priced k (reverse rows)
    priced_done = priced_reversed k rows board.priced

    abbrev last : List (Pair C)
    last = front k (reverse rows) []

    good : (p : Pair C) → In p last → Good k p
    good = front_good k laws (reverse rows) [] few_done priced_done

    -- the cheapest pair of the last front against a choice d that keeps every limit
    record Beside (d : List (Taken C)) : Type 0 where
      stands : In (best k rows) last
      cheaper : NoDearer k (best k rows).cost (cost k d)
      lighter : cost k d ≡ (best k rows).cost → (best k rows).load ≤ load d

    beside : (d : List (Taken C)) → In d (choices rows) → T (keeps d) → Beside d
    beside d h t =
        let c = front_covers k laws (reverse rows) [] few_done priced_done d h (and_in (keeps d) true t tt) in
        let p = c.0 in
        let top = best k rows in
        let light = no_heavier k p (pair k d) c.2 in
        let under = no_dearer k p (pair k d) c.2 in
        let stands = cheapest_in last p c.1 in
        ⊎_elim
        (λ e. record { stands = stands; cheaper = subst (λ (x : Pair C). NoDearer k x.cost (cost k d)) e under; lighter = λ _. omega (arith, ap (λ (x : Pair C). x.load) e) })
        (λ a. record {
          stands = stands;
          cheaper = laws.chain top.cost p.cost (cost k d) (good top stands) (good p c.1) (choice_total k rows board.few board.priced d h) (ahead_under k laws top p (good top stands) (good p c.1) a) under;
          lighter = λ e. absurd (ahead_dearer k top p a (subst (λ (x : C). NoDearer k p.cost x) e under));
        })
        (cheapest_ahead last (front_falls k laws (reverse rows) [] few_done priced_done) p c.1)

    module _ (d : List (Taken C)) (h : In d (choices rows)) (t : T (keeps d)) where
      way : Back k (reverse rows) [] (best k rows)
      way = back_finds k laws (reverse rows) [] few_done priced_done (best k rows) (beside d h t).stands

      pub costs_best : (best k rows).cost ≡ cost k (chosen k rows)
      costs_best = sym (ap (λ (x : Pair C). x.cost) way.is)

      pub loads_best : (best k rows).load ≡ load (chosen k rows)
      loads_best = sym (ap (λ (x : Pair C). x.load) way.is)

      -- where some choice d keeps every limit, the plan is a best one
      pub chosen_best : Best k rows (chosen k rows)
      chosen_best = record {
        choice = ∣ way.begins ∣₁;
        kept = open_keeps [] (chosen k rows) way.opens;
        cheapest = λ c a s. ∥∥₁_elim a (T_prop (k.under (cost k (chosen k rows)) (cost k c))) (λ i. subst (λ (x : C). NoDearer k x (cost k c)) costs_best (beside c i s).cheaper);
        lightest = λ c a s e. ∥∥₁_elim a le_prop (λ i. omega (arith, (beside c i s).lighter (e ∙ sym costs_best), loads_best));
      }
