use Rattle.std.proofs.Common.{arith}
use Rattle.shortlist.proofs.Inserting.{is_inserted}
use Rattle.shortlist.proofs.lists.makes.put_in.Goals as goal

pub returns : goal.returns
returns g c = is_inserted c.args.places.now c.args.count c.min-place.result c.args.item c.requires (omega (arith, c.min-place.ensures)) c.args.at c.min-place.ensures c.rotate_right.new.self c.rotate_right.ensures.after
