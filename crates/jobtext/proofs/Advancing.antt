-- Reading goes on in the text: each line that is read has a byte at least, so that there are never more lines than bytes, and
-- a call leaves fewer bytes than it found.
use Rattle.std.proofs.Common.{◌≡◌, sym, subst, ℕ, zero, suc, ◌+◌, ◌<◌, ◌≤◌, Bool, true, false, cond, eqb, List, [], ◌∷◌, length, Some, None, Ok, Err, codes, Option, arith}
use Rattle.std.specs.Option.{option_map}
use Rattle.plantext.specs.Numbers.{number_of}
use Rattle.jobtext.specs.declared.headers.Rule.{Rule}
use Rattle.jobtext.specs.declared.calls.Word.{Word}
use Rattle.jobtext.specs.declared.calls.Word.TheVariants.{Admit, Retire, Capacity, Trial, Serve, Clock, Plan}
use Rattle.jobtext.specs.Lines.{Place, Reading, got, and_then, Cut, longer, cut, behind, ended, keyed, formed, due, repeated}
use Rattle.jobtext.specs.Headers.{Header, number_line, level, header, kind_of, rule_of, count_of}
use Rattle.jobtext.specs.Calls.{CallOfJob, call_lines, job_call, word_of, due_key}

-- the number of the next line, and the bytes that are left
abbrev pub extent : Place → ℕ
extent q = q.line + length q.rest

abbrev pub Advances : {X : Type 0} → Place → Reading X → Type 0
Advances q (Ok g) = (extent g.place ≤ extent q) × (length g.place.rest ≤ length q.rest)
Advances q (Err e) = Unit {0}

-- where it was read to
reached : {X : Type 0} (q s : Place) (x : X) (r : Reading X) → Ok (got x s) ≡ r → Advances q r → extent s ≤ extent q
reached q s x r e h = (subst (Advances q) (sym e) h).0

-- a line was read at least
abbrev pub Shrinks : {X : Type 0} → Place → Reading X → Type 0
Shrinks q (Ok g) = length g.place.rest < length q.rest
Shrinks q (Err e) = Unit {0}

further : {X : Type 0} (q s : Place) (r : Reading X) → (extent s ≤ extent q) × (length s.rest ≤ length q.rest) → Advances s r → Advances q r
further q s (Ok g) h k = (omega arith, omega arith)
further q s (Err e) h k = tt

shorter_still : {X : Type 0} (q s : Place) (r : Reading X) → length s.rest < length q.rest → Advances s r → Shrinks q r
shorter_still q s (Ok g) h k = omega arith
shorter_still q s (Err e) h k = tt

first_shrinks : {X Y : Type 0} (q : Place) (r : Reading X) (f : X → Place → Reading Y) → Shrinks q r → ((x : X) (s : Place) → Advances s (f x s)) → Shrinks q (and_then r f)
first_shrinks q (Ok g) f h k = shorter_still q g.place (f g.value g.place) h (k g.value g.place)
first_shrinks q (Err e) f h k = tt

on : {X Y : Type 0} (q : Place) (r : Reading X) (f : X → Place → Reading Y) → Advances q r → ((x : X) (s : Place) → Advances s (f x s)) → Advances q (and_then r f)
on q (Ok g) f h k = further q g.place (f g.value g.place) h (k g.value g.place)
on q (Err e) f h k = tt

stands : {X : Type 0} (x : X) (q : Place) → Advances q (Ok (got x q))
stands x q = (omega arith, omega arith)

abbrev Shorter : ℕ → Option Cut → Type 0
Shorter n None = Unit {0}
Shorter n (Some c) = length c.rest < n

one_longer : (b n : ℕ) (o : Option Cut) → Shorter n o → Shorter (suc n) (option_map (longer b) o)
one_longer b n None h = tt
one_longer b n (Some c) h = omega arith

either : (b : ℕ) (bs : List ℕ) (o : Option Cut) → Shorter (length bs) o → (t : Bool) → Shorter (suc (length bs)) (cond t (Some (record { line = []; rest = bs })) (option_map (longer b) o))
either b bs o h true = omega arith
either b bs o h false = one_longer b (length bs) o h

cut_shorter : (bs : List ℕ) → Shorter (length bs) (cut bs)
cut_shorter [] = tt
cut_shorter (b ∷ bs) = either b bs (cut bs) (cut_shorter bs) (eqb b 10)

line_ended : (q : Place) (o : Option Cut) → Shorter (length q.rest) o → Advances q (ended q.line o)
line_ended q None h = tt
line_ended q (Some c) h = (omega arith, omega arith)

line_shrinks : (q : Place) (o : Option Cut) → Shorter (length q.rest) o → Shrinks q (ended q.line o)
line_shrinks q None h = tt
line_shrinks q (Some c) h = h

with_key : (line : ℕ) (q : Place) (o : Option (List ℕ)) → Advances q (keyed line q o)
with_key line q None = tt
with_key line q (Some v) = stands v q

with_form : {X : Type 0} (line : ℕ) (q : Place) (o : Option X) → Advances q (formed line q o)
with_form line q None = tt
with_form line q (Some x) = stands x q

due_advances : {X : Type 0} (key : List ℕ) (form : List ℕ → Option X) (q : Place) → Advances q (due key form q)
due_advances key form q =
    on q (ended q.line (cut q.rest)) (λ bytes r. and_then (keyed q.line r (behind key bytes)) (λ value s. formed q.line s (form value))) (line_ended q (cut q.rest) (cut_shorter q.rest)) (λ bytes r.
    on r (keyed q.line r (behind key bytes)) (λ value s. formed q.line s (form value)) (with_key q.line r (behind key bytes)) (λ value s. with_form q.line s (form value)))

due_shrinks : {X : Type 0} (key : List ℕ) (form : List ℕ → Option X) (q : Place) → Shrinks q (due key form q)
due_shrinks key form q =
    first_shrinks q (ended q.line (cut q.rest)) (λ bytes r. and_then (keyed q.line r (behind key bytes)) (λ value s. formed q.line s (form value))) (line_shrinks q (cut q.rest) (cut_shorter q.rest)) (λ bytes r.
    on r (keyed q.line r (behind key bytes)) (λ value s. formed q.line s (form value)) (with_key q.line r (behind key bytes)) (λ value s. with_form q.line s (form value)))

number_advances : (key : List ℕ) (q : Place) → Advances q (number_line key q)
number_advances key q = due_advances key number_of q

-- a line with a number, and what is read behind it
numbered : {X : Type 0} (key : List ℕ) (f : ℕ → Place → Reading X) (q : Place) → ((n : ℕ) (s : Place) → Advances s (f n s)) → Advances q (and_then (number_line key q) f)
numbered key f q h = on q (number_line key q) f (number_advances key q) h

repeated_advances : {X : Type 0} (read : Place → Reading X) → ((s : Place) → Advances s (read s)) → (n : ℕ) (q : Place) → Advances q (repeated read n q)
repeated_advances read h zero q = (omega arith, omega arith)
repeated_advances read h (suc n) q =
    on q (read q) (λ x r. and_then (repeated read n r) (λ xs s. Ok (got (x ∷ xs) s))) (h q) (λ x r.
    on r (repeated read n r) (λ xs s. Ok (got (x ∷ xs) s)) (repeated_advances read h n r) (λ xs s. (omega arith, omega arith)))

level_advances : (q : Place) → Advances q (level q)
level_advances q = numbered (codes "mhz=") _ q (λ mhz r. numbered (codes "mw=") _ r (λ mw s. (omega arith, omega arith)))

header_advances : (q : Place) → Advances q (header q)
header_advances q =
    on q (due (codes "kind=") kind_of q) _ (due_advances (codes "kind=") kind_of q) (λ kind q.
    on q (due (codes "rule=") rule_of q) _ (due_advances (codes "rule=") rule_of q) (λ rule q.
    on q (due (codes "levels=") (count_of 1 8) q) _ (due_advances (codes "levels=") (count_of 1 8) q) (λ n q.
    on q (repeated level n q) _ (repeated_advances level level_advances n q) (λ levels q.
    on q (due (codes "devices=") (count_of 0 8) q) _ (due_advances (codes "devices=") (count_of 0 8) q) (λ d q.
    on q (repeated (number_line (codes "standby=")) d q) _ (repeated_advances (number_line (codes "standby=")) (number_advances (codes "standby=")) d q) (λ standby q. (omega arith, omega arith)))))))

pub header_reached : (q s : Place) (h : Header) → Ok (got h s) ≡ header q → extent s ≤ extent q
header_reached q s h e = reached q s h (header q) e (header_advances q)

lines_advance : (rule : Rule) (devices : ℕ) (word : Word) (q : Place) → Advances q (call_lines rule devices word q)
lines_advance rule devices Admit q =
    numbered (codes "port=") _ q (λ port q.
    numbered (codes "cycles=") _ q (λ cycles q.
    numbered (codes "access=") _ q (λ access q.
    numbered (due_key rule) _ q (λ time q.
    on q (repeated (number_line (codes "share=")) devices q) _ (repeated_advances (number_line (codes "share=")) (number_advances (codes "share=")) devices q) (λ shares q. (omega arith, omega arith))))))
lines_advance rule devices Retire q = numbered (codes "port=") _ q (λ port q. (omega arith, omega arith))
lines_advance rule devices Capacity q = numbered (codes "capacity=") _ q (λ capacity q. (omega arith, omega arith))
lines_advance rule devices Trial q = numbered (codes "capacity=") _ q (λ capacity q. (omega arith, omega arith))
lines_advance rule devices Serve q = numbered (codes "port=") _ q (λ port q. numbered (codes "cycles=") _ q (λ cycles q. (omega arith, omega arith)))
lines_advance rule devices Clock q = numbered (codes "time=") _ q (λ time q. (omega arith, omega arith))
lines_advance rule devices Plan q = (omega arith, omega arith)

call_advances : (rule : Rule) (devices : ℕ) (q : Place) → Advances q (job_call rule devices q)
call_advances rule devices q = on q (due (codes "call=") (word_of rule) q) _ (due_advances (codes "call=") (word_of rule) q) (λ word q. lines_advance rule devices word q)

pub call_reached : (rule : Rule) (devices : ℕ) (q s : Place) (call : CallOfJob) → Ok (got call s) ≡ job_call rule devices q → extent s ≤ extent q
call_reached rule devices q s call e = reached q s call (job_call rule devices q) e (call_advances rule devices q)

pub call_shrinks : (rule : Rule) (devices : ℕ) (q : Place) → Shrinks q (job_call rule devices q)
call_shrinks rule devices q = first_shrinks q (due (codes "call=") (word_of rule) q) _ (due_shrinks (codes "call=") (word_of rule) q) (λ word q. lines_advance rule devices word q)
