use Rattle.std.proofs.Common.{map}
use base.Stored.{Coded-set}
use Rattle.board.specs.Views.{processor_figures}
use Rattle.tally.specs.Lent.{lent}
use Rattle.lives.proofs.Asking.{lives_agree}
use Rattle.lives.proofs.living.lives.Goals as goal

pub returns-clause-renumbered : goal.returns-clause-renumbered
returns-clause-renumbered g c =
    let figures = g.B.Book.figures in
    let meant = g.B.Book.meant in
    let both = c.live_twice in
    let one = both.result.first in
    let other = both.result.second in
    lives_agree g.K.Kind.meaning g.met.K.Kind.laws g.B.Book.rule (processor_figures c.args.processor.now) (map meant c.args.calls.now) (g.B.Book.asked c.args.question) (lent c.args.list.now c.args.levels.now) (figures one.book) one.plan (lent both.new.list both.new.levels) (Coded-set g.row.K.coded) both.ensures.first (g.met.B.Book.fits one.book)
    (map meant c.args.others.now) (lent c.args.other_list.now c.args.other_levels.now) (figures other.book) other.plan (lent both.new.other_list both.new.other_levels) both.ensures.second (g.met.B.Book.fits other.book)
