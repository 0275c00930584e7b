-- Job text by lines: a line is its key with one `=`, and its value, ended by byte 10.
--   Place              where a reader stands: the bytes that it has not read, and the number of the line that they begin with
--   Got X              what was read, and the place behind it
--   Reading X          what was read, or the fault of the first faulty line
--   and_then r f       reads on with f behind what was read, if that was not faulty
--   Cut                a line without its end, and the bytes behind its end
--   cut bs             the first line of the bytes; none if no byte 10 ends it
--   behind key bs      what stands behind the key, if the bytes begin with it
--   is name bs         the bytes are the name, and no more
--   due key form q     reads the line that is due: it is ended, begins with the key, and has a value of the form; its faults are looked for in this order
--   repeated read n q  reads n times
use Rattle.std.specs.Prelude.{ℕ, zero, suc, ◌+◌, Bool, false, cond, List, [], ◌∷◌, length, Some, None, Ok, Err, Option, Result, ◌==◌}
use Rattle.std.specs.Option.{option_map}
use Rattle.plantext.specs.declared.faults.JobFault.{JobFault}
use Rattle.plantext.specs.declared.faults.JobFault.TheVariants.{TextEnds, WrongKey, BadValue}

pub record Place : Type 0 where
  pub rest : List ℕ
  pub line : ℕ

pub record Got (X : Type 0) : Type 0 where
  pub value : X
  pub place : Place

abbrev pub got : {X : Type 0} → X → Place → Got X
got x q = record { value = x; place = q }

abbrev pub Reading : Type 0 → Type 0
Reading X = Result (Got X) JobFault

abbrev pub and_then : {X Y : Type 0} → Reading X → (X → Place → Reading Y) → Reading Y
and_then (Ok g) f = f g.value g.place
and_then (Err e) f = Err e

pub record Cut : Type 0 where
  pub line : List ℕ
  pub rest : List ℕ

abbrev pub longer : ℕ → Cut → Cut
longer b c = record { line = b ∷ c.line; rest = c.rest }

abbrev pub cut : List ℕ → Option Cut
cut [] = None
cut (b ∷ bs) = cond (b == 10) (Some (record { line = []; rest = bs })) (option_map (longer b) (cut bs))

abbrev pub behind : List ℕ → List ℕ → Option (List ℕ)
behind [] bs = Some bs
behind (k ∷ ks) [] = None
behind (k ∷ ks) (b ∷ bs) = cond (b == k) (behind ks bs) None

abbrev pub none_left : Option (List ℕ) → Bool
none_left None = false
none_left (Some bs) = length bs == 0

abbrev pub is : List ℕ → List ℕ → Bool
is name bs = none_left (behind name bs)

-- 13 without an end, 14 without the key, 15 without a value of the form
abbrev pub ended : ℕ → Option Cut → Reading (List ℕ)
ended line None = Err (TextEnds line)
ended line (Some c) = Ok (got c.line (record { rest = c.rest; line = line + 1 }))

abbrev pub keyed : ℕ → Place → Option (List ℕ) → Reading (List ℕ)
keyed line q None = Err (WrongKey line)
keyed line q (Some value) = Ok (got value q)

abbrev pub formed : {X : Type 0} → ℕ → Place → Option X → Reading X
formed line q None = Err (BadValue line)
formed line q (Some x) = Ok (got x q)

abbrev pub due : {X : Type 0} → List ℕ → (List ℕ → Option X) → Place → Reading X
due key form q =
    and_then (ended q.line (cut q.rest)) (λ bytes r.
    and_then (keyed q.line r (behind key bytes)) (λ value r. formed q.line r (form value)))

abbrev pub repeated : {X : Type 0} → (Place → Reading X) → ℕ → Place → Reading (List X)
repeated read zero q = Ok (got [] q)
repeated read (suc n) q = and_then (read q) (λ x r. and_then (repeated read n r) (λ xs s. Ok (got (x ∷ xs) s)))
