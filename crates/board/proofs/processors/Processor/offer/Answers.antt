use Rattle.std.proofs.Common.{◌≡◌, ℕ, ◌<◌, true, eqb, List, length, get_or, Some, None, Option, sym, refl, ap, ◌∙◌, subst}
use Rattle.std.specs.Option.{option_map}
use Rattle.std.specs.List.{slice_get}
use Rattle.std.proofs.lemmas.Bool.{eqb-true, and_parts, cond-true, cond-false}
use Rattle.std.proofs.lemmas.Option.{slice_get_past, slice_get_read}
use Rattle.board.specs.declared.levels.Level.{Level}
use Rattle.board.specs.declared.measures.Measure.{Measure}
use Rattle.board.specs.declared.offers.Offer.{Offer}
use Rattle.board.specs.Processors.{ProcessorFigures}
use Rattle.board.specs.Tasks.{FiguresOfTask}
use Rattle.board.specs.Measures.{measure, offered, offer_at, offer, offer_if, belongs, counts_in, Offered}
use Rattle.board.specs.Views.{processor_figures, task_figures}
use Rattle.board.proofs.Offering.{offered_here}
use Rattle.board.proofs.processors.Processor.offer.Goals as goal

-- an offer by what the level list holds at the number
at_level : (p : ProcessorFigures) (t : FiguresOfTask) (h n : ℕ) (l : Option Level) (r : Option Measure) → true ≡ belongs p t h → slice_get p.levels n ≡ l → r ≡ offer_at p t h l → r ≡ offer_if p t h n
at_level p t h n l r belong at is = is ∙ ap (offer_at p t h) (sym at) ∙ sym (cond-true (belongs p t h) (offer p t h n) None (sym belong))

-- the level that was found
found : (ls xs : List Level) (n : ℕ) (l : Level) → ls ≡ xs → n < length ls → l ≡ get_or ls n l → slice_get xs n ≡ Some l
found ls xs n l e h is = ap (λ ys. slice_get ys n) (sym e) ∙ slice_get_read ls (length ls) n l refl h is

pub returns-in_err-level : goal.returns-in_err-level
returns-in_err-level c =
    let p = processor_figures c.args.self.now in
    let t = task_figures c.args.task.now in
    let past = ap (λ ls. slice_get ls c.args.number) (sym c.levels.ensures) ∙ slice_get_past c.levels.result.now c.args.number c.in_err-level.ensures.lookup.3 in
    ap (option_map (λ (o : Offer). o.measure)) c.from_residual.ensures ∙ at_level p t c.args.hyperperiod.now.micros c.args.number None None (c.if-not-belongs.ensures ∙ ap (belongs p t) c.micros.ensures) past refl

pub returns-then-not-is_offered : goal.returns-then-not-is_offered
returns-then-not-is_offered c =
    let p = processor_figures c.args.self.now in
    let t = task_figures c.args.task.now in
    let h = c.args.hyperperiod.now.micros in
    let l = c.in_ok-level.field-0.now in
    let at = found c.levels.result.now p.levels c.args.number l c.levels.ensures c.in_ok-level.ensures.lookup.3.0 c.in_ok-level.ensures.lookup.1 in
    at_level p t h c.args.number (Some l) None (c.if-not-belongs.ensures ∙ ap (belongs p t) c.micros.ensures) at (sym (cond-false (offered t l) (Some (measure p t h l)) None (sym c.if-not-is_offered.ensures)))

pub invariant_of-result : goal.invariant_of-result
invariant_of-result c =
    let p = c.args.self.now in
    let t = c.args.task.now in
    let h = c.args.hyperperiod.now in
    let l = c.in_ok-level.field-0.now in
    let belong : belongs (processor_figures p) (task_figures t) h.micros ≡ true = sym (c.if-not-belongs.ensures ∙ ap (belongs (processor_figures p) (task_figures t)) c.micros.ensures) in
    let parts = and_parts (eqb (length (task_figures t).shares) (length (processor_figures p).standby)) (counts_in h.micros t.due) belong in
    let at = found c.levels.result.now (processor_figures p).levels c.args.number l c.levels.ensures c.in_ok-level.ensures.lookup.3.0 c.in_ok-level.ensures.lookup.1 in
    let here = offered_here p t h.micros l c.args.number (eqb-true _ _ parts.0) parts.1 h.short h.made at (sym c.if-not-is_offered.ensures) in
    record { offered = subst (λ m. Offered m) (sym (c.measure.ensures ∙ ap (λ n. measure (processor_figures p) (task_figures t) n l) c.micros-2.ensures)) here }

pub returns : goal.returns
returns c =
    let p = processor_figures c.args.self.now in
    let t = task_figures c.args.task.now in
    let h = c.args.hyperperiod.now.micros in
    let l = c.in_ok-level.field-0.now in
    let at = found c.levels.result.now p.levels c.args.number l c.levels.ensures c.in_ok-level.ensures.lookup.3.0 c.in_ok-level.ensures.lookup.1 in
    at_level p t h c.args.number (Some l) (Some c.measure.result) (c.if-not-belongs.ensures ∙ ap (belongs p t) c.micros.ensures) at (ap Some (c.measure.ensures ∙ ap (λ n. measure p t n l) c.micros-2.ensures) ∙ sym (cond-true (offered t l) (Some (measure p t h l)) None (sym c.if-not-is_offered.ensures)))
