use Rattle.std.proofs.Common.{◌-◌, arith}
use Rattle.std.proofs.lemmas.List.Elements.{Contains-get_or}
use Rattle.ig_forest.proofs.item_nodes.Sources.lowest.Goals as goal

pub number-requires : goal.number-requires
number-requires c =
    let lt = c.loop-place-test.true in
    (c.requires _ (Contains-get_or c.args.further.now (c.loop-place.place - 1) _ (omega (arith, lt)))).0

pub number-requires-in-loop-place : goal.number-requires-in-loop-place
number-requires-in-loop-place c =
    let lt = c.loop-place-test.true in
    (c.requires _ (Contains-get_or c.args.further.now c.loop-place.place _ (omega (arith, lt)))).0
