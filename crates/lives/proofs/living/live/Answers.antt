use Rattle.std.proofs.Common.{map}
use Rattle.board.specs.Views.{processor_figures}
use Rattle.tally.specs.Lent.{lent}
use Rattle.lives.proofs.Asking.{whole_life}
use Rattle.lives.proofs.living.live.Goals as goal

pub returns : goal.returns
returns g c =
    let k = g.K.Kind.meaning in
    let figures = g.B.Book.figures in
    let followed = c.book_after-book in
    let asked = c.ask-plan in
    whole_life k g.met.K.Kind.laws g.B.Book.rule (processor_figures c.args.processor.now) (map g.B.Book.meant c.args.calls.now) (g.B.Book.asked c.args.question) (lent c.args.list.now c.args.levels.now) (figures asked.new.self) asked.result (lent asked.new.list asked.new.levels) (figures followed.result) (g.met.B.Book.fits followed.result) followed.ensures.book asked.ensures.book (lent followed.new.list followed.new.levels) followed.ensures.left followed.auto.list followed.auto.levels asked.ensures.answer asked.ensures.list asked.ensures.levels
