use Rattle.std.proofs.Common.{◌-◌, arith}
use Rattle.std.proofs.lemmas.List.Elements.{Contains-get_or}
use Rattle.ig_forest.proofs.item_nodes.Sources.next_place.Goals as goal

pub number-requires : goal.number-requires
number-requires c =
    let some = c.if-begin-eq0.false in
    let within = c.requires.within in
    (c.requires.fits _ (Contains-get_or c.args.further.now (c.args.begin - 1) _ (omega (arith, some, within)))).0

pub number-requires-2 : goal.number-requires-2
number-requires-2 c =
    let lt = c.if-end-further.false in
    (c.requires.fits _ (Contains-get_or c.args.further.now c.args.end _ (omega (arith, lt)))).0
