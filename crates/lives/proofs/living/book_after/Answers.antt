use Rattle.std.proofs.Common.{◌≡◌, get_or, sym, ap, ◌∙◌}
use mathlib.Core.List.{map-map}
use Rattle.board.specs.Views.{processor_figures}
use Rattle.tally.specs.Steps.{life}
use Rattle.tally.specs.Books.{book_figures, after}
use Rattle.tally.specs.Lent.{lent, lent_after}
use Rattle.tally.proofs.Living.{life_more, life_all, leaves_more, leaves_all}
use Rattle.lives.specs.Rules.{rows_of}
use Rattle.lives.proofs.living.book_after.Goals as goal

pub loop-call-preserved : goal.loop-call-preserved
loop-call-preserved g c =
    let k = g.K.Kind.meaning in
    let meant = g.B.Book.meant in
    let rows = rows_of g.B.Book.rule k in
    let calls = c.args.calls.now in
    let i = c.loop-call.call-index in
    let call = c.call-item.result in
    let b = g.B.Book.figures c.loop-call.book in
    let now = lent c.loop-call.list c.loop-call.levels in
    let next = lent c.follow.new.list c.follow.new.levels in
    let book : g.B.Book.figures c.follow.new.self ≡ after b (meant (get_or calls i call)).call = c.follow.ensures.book ∙ ap (λ x. after b (meant x).call) c.call-item.is in
    let left : next ≡ lent_after k rows b (meant (get_or calls i call)) now next = c.follow.ensures.left ∙ ap (λ x. lent_after k rows b (meant x) now next) c.call-item.is in (
      book ∙ life_more (processor_figures c.args.processor.now) (λ x. (meant x).call) calls i call b c.loop-call-test.true c.loop-call.invariant.0,
      λ all rest. c.loop-call.invariant.1 all (leaves_more k rows meant calls i b now call (g.B.Book.figures c.follow.new.self) next c.loop-call-test.true book left c.follow.auto.list all rest),
    )

pub returns : goal.returns
returns g c =
    let p = processor_figures c.args.processor.now in
    let k = g.K.Kind.meaning in
    let meant = g.B.Book.meant in
    let calls = c.args.calls.now in
    let i = c.loop-call.call-index in
    let b = g.B.Book.figures c.loop-call.book in
    let left = lent c.loop-call.list c.loop-call.levels in
    record {
      book = life_all p (λ x. (meant x).call) calls i b c.loop-call-test.false c.loop-call.invariant.0 ∙ ap (λ cs. book_figures p (life p cs)) (sym (map-map (λ x. x.call) meant calls));
      left = c.loop-call.invariant.1 left (leaves_all k (rows_of g.B.Book.rule k) meant calls i b left c.loop-call-test.false);
    }
