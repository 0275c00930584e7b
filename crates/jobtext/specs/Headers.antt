-- The header of a job text: what is planned for, by which rule, and on which processor.
--   named v names      the thing that the list has under the name v
--   kind_of v          the kind with this letter
--   rule_of v          the rule with this letter: p for periodic tasks, s for sporadic ones
--   count_of a b v     a number from a to b
--   number_line key q  reads a line whose value is a number
--   level q            reads speed in MHz and power in mW of a level
--   Header             kind, rule and processor
--   header q           reads the header: kind, rule, the count of levels and each level, the count of devices and the standby power of each in mW
use Rattle.std.specs.Prelude.{ℕ, cond, List, [], ◌∷◌, Some, None, Ok, codes, Option}
use Rattle.board.specs.declared.levels.Level.{Level}
use Rattle.board.specs.Processors.{ProcessorFigures, between}
use Rattle.plantext.specs.Numbers.{number_of}
use Rattle.jobtext.specs.declared.headers.KindName.{KindName}
use Rattle.jobtext.specs.declared.headers.KindName.TheVariants as kinds
use Rattle.jobtext.specs.declared.headers.Rule.{Rule}
use Rattle.jobtext.specs.declared.headers.Rule.TheVariants as rules
use Rattle.jobtext.specs.Lines.{Place, Reading, got, and_then, is, due, repeated}

pub record Name (X : Type 0) : Type 0 where
  pub bytes : List ℕ
  pub means : X

abbrev pub called : {X : Type 0} → List ℕ → X → Name X
called bytes x = record { bytes = bytes; means = x }

abbrev pub named : {X : Type 0} → List ℕ → List (Name X) → Option X
named v [] = None
named v (n ∷ ns) = cond (is n.bytes v) (Some n.means) (named v ns)

abbrev pub kind_of : List ℕ → Option KindName
kind_of v = named v (called (codes "e") kinds.Energy ∷ called (codes "p") kinds.Peak ∷ called (codes "b") kinds.Both ∷ [])

abbrev pub rule_of : List ℕ → Option Rule
rule_of v = named v (called (codes "p") rules.Periodic ∷ called (codes "s") rules.Sporadic ∷ [])

abbrev pub within : ℕ → ℕ → Option ℕ → Option ℕ
within low high None = None
within low high (Some n) = cond (between low high n) (Some n) None

abbrev pub count_of : ℕ → ℕ → List ℕ → Option ℕ
count_of low high v = within low high (number_of v)

abbrev pub number_line : List ℕ → Place → Reading ℕ
number_line key q = due key number_of q

abbrev pub level : Place → Reading Level
level q =
    and_then (number_line (codes "mhz=") q) (λ mhz q.
    and_then (number_line (codes "mw=") q) (λ mw q. Ok (got (record { mhz = mhz; mw = mw }) q)))

pub record Header : Type 0 where
  pub kind : KindName
  pub rule : Rule
  pub processor : ProcessorFigures

abbrev pub header : Place → Reading Header
header q =
    and_then (due (codes "kind=") kind_of q) (λ kind q.
    and_then (due (codes "rule=") rule_of q) (λ rule q.
    and_then (due (codes "levels=") (count_of 1 8) q) (λ levels q.
    and_then (repeated level levels q) (λ levels q.
    and_then (due (codes "devices=") (count_of 0 8) q) (λ devices q.
    and_then (repeated (number_line (codes "standby=")) devices q) (λ standby q.
    Ok (got (record { kind = kind; rule = rule; processor = record { levels = levels; standby = standby } }) q)))))))
