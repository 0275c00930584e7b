-- The text of an answer, and the buffer that it is written into.
--   line_of key value              a line of text: the key, its value, and the line's end
--   level_of byte                  the level that a byte of the levels names, 0 to 7; none at any other byte, which is a port without a task
--   level_sign level               the sign of a port: the digit of its level, `-` where it has no task
--   level_signs levels             the signs of the ports, from port 1 on
--   numbers_text ns                the numbers in decimal, with a comma between two
--   plan_text numbers levels f     the lines of a plan with the figures f, of whose cost `numbers` gives what is printed
--   fault_text f                   the lines of a refusal
--   answer_text numbers levels o   the text of the answer of a job call with the outcome o: the figures of a plan, none where it was no plan, or a fault
--   room_needed                    an answer is written where the buffer has at least 256 bytes
--   written text found             the buffer that held `found`, after the answer: the text, and the rest as it was; one with too little room is left as found
--   written_length text found      how many bytes were written
use Rattle.std.specs.Prelude.{ℕ, ◌+◌, cond, List, [], ◌∷◌, ◌++◌, map, length, Some, None, Ok, Err, codes, decimal, Option, Result, nat_le, nat_lt}
use Rattle.plans.specs.declared.figures.Figures.{Figures}
use Rattle.plans.specs.Plans.{laid}
use Rattle.plantext.specs.declared.faults.JobFault.{JobFault}
use Rattle.plantext.specs.Faults.{job_numbered}

abbrev pub line_of : List ℕ → List ℕ → List ℕ
line_of key value = key ++ (value ++ (10 ∷ []))

abbrev pub level_of : ℕ → Option ℕ
level_of byte = cond (nat_le byte 7) (Some byte) None

abbrev pub level_sign : Option ℕ → ℕ
level_sign None = 45
level_sign (Some level) = 48 + level

abbrev pub level_signs : List ℕ → List ℕ
level_signs levels = map (λ byte. level_sign (level_of byte)) levels

abbrev pub numbers_text : List ℕ → List ℕ
numbers_text [] = []
numbers_text (n ∷ []) = decimal n
numbers_text (n ∷ (next ∷ ns)) = decimal n ++ (44 ∷ numbers_text (next ∷ ns))

abbrev pub plan_text : {C : Type 0} → (C → List ℕ) → List ℕ → Figures C → List ℕ
plan_text numbers levels f =
    line_of (codes "answer=") (decimal 0)
    ++ (line_of (codes "cost=") (numbers_text (numbers f.cost))
    ++ (line_of (codes "load=") (decimal f.load)
    ++ (line_of (codes "limit=") (decimal f.limit)
    ++ (line_of (codes "states=") (decimal f.states)
    ++ line_of (codes "levels=") (level_signs levels)))))

abbrev pub fault_text : JobFault → List ℕ
fault_text f =
    line_of (codes "answer=") (decimal (job_numbered f).number)
    ++ (line_of (codes "line=") (decimal (job_numbered f).line)
    ++ line_of (codes "port=") (decimal (job_numbered f).port))

abbrev pub answer_text : {C : Type 0} → (C → List ℕ) → List ℕ → Result (Option (Figures C)) JobFault → List ℕ
answer_text numbers levels (Ok None) = line_of (codes "answer=") (decimal 0)
answer_text numbers levels (Ok (Some f)) = plan_text numbers levels f
answer_text numbers levels (Err f) = fault_text f

abbrev pub room_needed : ℕ
room_needed = 256

abbrev pub written : List ℕ → List ℕ → List ℕ
written text found = cond (nat_lt (length found) room_needed) found (laid 0 text found)

abbrev pub written_length : List ℕ → List ℕ → ℕ
written_length text found = cond (nat_lt (length found) room_needed) 0 (length text)
