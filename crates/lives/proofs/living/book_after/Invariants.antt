use Rattle.std.proofs.Common.{◌≡◌, map, take, drop}
use Rattle.board.specs.Views.{processor_figures}
use Rattle.tally.specs.Tally.{new_tally}
use Rattle.tally.specs.Steps.{life}
use Rattle.tally.specs.Books.{book_figures}
use Rattle.tally.specs.Lent.{Lent, lent, Leaves}
use Rattle.lives.specs.Rules.{rows_of}
use Rattle.lives.proofs.living.book_after.Given as goal

-- the book has followed the calls so far; what it leaves of the rest is left by all of them
abbrev pub invariant-loop-call : goal.invariant-loop-call
invariant-loop-call g l =
    let k = g.K.Kind.meaning in
    let p = processor_figures l.processor in
    let rows = rows_of g.B.Book.rule k in
    (g.B.Book.figures l.book ≡ book_figures p (life p (take l.call-index (map (λ x. (g.B.Book.meant x).call) l.calls))))
    × ((left : Lent _) → Leaves k rows (g.B.Book.figures l.book) (map g.B.Book.meant (drop l.call-index l.calls)) (lent l.list l.levels) left →
    Leaves k rows (book_figures p new_tally) (map g.B.Book.meant l.calls) (lent l.initial.list l.initial.levels) left)
