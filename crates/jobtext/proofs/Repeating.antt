-- Reading several times, one after the other.
use Rattle.std.proofs.Common.{◌≡◌, ℕ, suc, ◌+◌, ◌-◌, ◌<◌, List, [], ◌∷◌, ◌++◌, Ok, Err, sym, refl, ap, ◌∙◌, arith}
use Rattle.std.proofs.lemmas.List.{append_assoc, append-nil}
use Rattle.plantext.specs.declared.faults.JobFault.{JobFault}
use Rattle.jobtext.specs.Lines.{Place, Reading, got, and_then, repeated}

-- what was read before, and what is read on
abbrev pub following : {X : Type 0} → List X → Reading (List X) → Reading (List X)
following xs r = and_then r (λ ys q. Ok (got (xs ++ ys) q))

behind_one : {X : Type 0} (xs : List X) (x : X) (r : Reading (List X)) → following xs (and_then r (λ ys q. Ok (got (x ∷ ys) q))) ≡ following (xs ++ x ∷ []) r
behind_one xs x (Ok g) = ap (λ ys. Ok (got ys g.place)) (sym (append_assoc xs (x ∷ []) g.value))
behind_one xs x (Err e) = refl

alone : {X : Type 0} (r : Reading (List X)) → following [] r ≡ r
alone (Ok g) = refl
alone (Err e) = refl

module _ {X : Type 0} (read : Place → Reading X) (xs : List X) (i n : ℕ) (q : Place) (r : Reading (List X)) where
  pub one_read : (x : X) (s : Place) → i < n → Ok (got x s) ≡ read q → following xs (repeated read (n - i) q) ≡ r → following (xs ++ x ∷ []) (repeated read (n - (i + 1)) s) ≡ r
  one_read x s more e inv =
      let m = n - (i + 1) in
      let left : n - i ≡ suc m = omega arith in
      sym (behind_one xs x (repeated read m s))
      ∙ ap (λ o. following xs (and_then o (λ y t. and_then (repeated read m t) (λ ys u. Ok (got (y ∷ ys) u))))) e
      ∙ ap (λ j. following xs (repeated read j q)) (sym left)
      ∙ inv

  pub one_faulty : (e : JobFault) → i < n → Err e ≡ read q → following xs (repeated read (n - i) q) ≡ r → Err e ≡ r
  one_faulty e more h inv =
      let m = n - (i + 1) in
      let left : n - i ≡ suc m = omega arith in
      ap (λ o. following xs (and_then o (λ y t. and_then (repeated read m t) (λ ys u. Ok (got (y ∷ ys) u))))) h
      ∙ ap (λ j. following xs (repeated read j q)) (sym left)
      ∙ inv

  pub all_read : i ≡ n → following xs (repeated read (n - i) q) ≡ r → Ok (got xs q) ≡ r
  all_read e inv =
      let none : n - i ≡ 0 = omega arith in
      ap (λ ys. Ok (got ys q)) (sym (append-nil xs)) ∙ ap (λ j. following xs (repeated read j q)) (sym none) ∙ inv

pub none_read : {X : Type 0} (read : Place → Reading X) (n : ℕ) (q : Place) → following [] (repeated read (n - 0) q) ≡ repeated read n q
none_read read n q =
    let whole : n - 0 ≡ n = omega arith in
    alone (repeated read (n - 0) q) ∙ ap (λ j. repeated read j q) whole
