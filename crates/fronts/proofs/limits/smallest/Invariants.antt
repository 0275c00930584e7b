use Rattle.std.proofs.Common.{◌≡◌, ◌-◌, length, take}
use Rattle.fronts.specs.Rows.{offers_from}
use Rattle.fronts.proofs.Lightest.{least, Within}
use Rattle.fronts.proofs.limits.smallest.Given as goal

-- the offers that are left are the first ones
abbrev pub invariant-loop-offer : goal.invariant-loop-offer
invariant-loop-offer g l =
    let rest = l.offer-iterator.iter.rest.now in
    (l.least ≡ least (offers_from g.K.Kind.meaning l.offers (length rest) (8 - length rest))) × Within l.least × (rest ≡ take (length rest) l.offers)
