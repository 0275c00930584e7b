use Rattle.std.proofs.Common.{◌≡◌, ◌+◌, ◌-◌, [], ◌∷◌, ◌++◌, length, Ok, Err, sym, ap, ◌∙◌, arith, length-append}
use Rattle.std.proofs.lemmas.Grind.{common_steps}
use Rattle.std.proofs.lemmas.Result.{err_from_is_err_and}
use Rattle.shortlist.specs.Lists.{listed}
use Rattle.jobtext.specs.Lines.{got, repeated}
use Rattle.jobtext.specs.Places.{place, read_view, list_view}
use Rattle.jobtext.proofs.Repeating.{following, none_read, one_read, one_faulty, all_read}
use Rattle.jobtext.proofs.readers.Reader.repeated.Goals as goal

pub loop-init : goal.loop-init
loop-init g c = (
  ap length c.none-list.ensures,
  λ means reads. ap (λ xs. following xs (repeated means (c.args.count - 0) (place c.args.self.now))) c.none-list.ensures ∙ none_read means c.args.count (place c.args.self.now),
)

pub returns-in_err-item : goal.returns-in_err-item
returns-in_err-item g c = λ means reads.
    let e = c.in_err-item.field-0.0 in
    let seen : Err e ≡ means (place c.loop.self) = ap (λ o. read_view o (place c.read.new.arg2)) (sym c.in_err-item.was) ∙ reads _ _ _ c.read.ensures in
    let r = err_from_is_err_and c.from_residual.result c.from_residual.ensures.1 in
    ap (λ a. list_view a (place c.read.new.arg2)) r.1
    ∙ ap Err r.2
    ∙ one_faulty means _ c.loop.counter c.args.count (place c.loop.self) _ e c.loop-test.true seen (c.loop.invariant.1 means reads)

pub loop-preserved : goal.loop-preserved
loop-preserved g c =
    let item = c.in_ok-item.item in
    let pushed : listed c.push.new.self ≡ listed c.loop.list ++ (item ∷ []) = grind (arith, common_steps) in (
      ap length pushed ∙ length-append (listed c.loop.list) (item ∷ []) ∙ ap (λ n. n + 1) c.loop.invariant.0,
      λ means reads.
          let seen : Ok (got item (place c.read.new.arg2)) ≡ means (place c.loop.self) = ap (λ o. read_view o (place c.read.new.arg2)) (sym c.in_ok-item.was) ∙ reads _ _ _ c.read.ensures in
          ap (λ xs. following xs (repeated means (c.args.count - (c.loop.counter + 1)) (place c.read.new.arg2))) pushed
          ∙ one_read means (listed c.loop.list) c.loop.counter c.args.count (place c.loop.self) _ item (place c.read.new.arg2) c.loop-test.true seen (c.loop.invariant.1 means reads),
    )

pub returns : goal.returns
returns g c = λ means reads.
    all_read means (listed c.loop.list) c.loop.counter c.args.count (place c.loop.self) _ (omega arith) (c.loop.invariant.1 means reads)
