use Rattle.std.proofs.Common.{◌∙◌, ◌≤◌, length, get_or, arith, rules}
use Rattle.std.proofs.lemmas.List.{length-set}
use Rattle.std.proofs.lemmas.List.Elements.{Contains-get_or}
use Rattle.ig_forest.proofs.CodeItemNodes.{few_numbers, numbers_next, numbers_all, numbers_begin}
use Rattle.ig_forest.proofs.item_nodes.numbers_of.Goals as goal

pub overflow_cast-place : goal.overflow_cast-place
overflow_cast-place c =
    let few : length c.args.order.now ≤ c.args.count = few_numbers c.args.order.now c.args.count c.requires.once c.requires.below in
    omega (arith, few)

pub index_mut-requires : goal.index_mut-requires
index_mut-requires c =
    let below = c.requires.below _ (Contains-get_or c.args.order.now c.loop-place.place 0 c.loop-place-test.true) in
    search (rules, below, c.loop-place.invariant.long)

pub loop-place-init : goal.loop-place-init
loop-place-init c = record {
  long = search (rules, c.in_ok-numbers.ensures.items);
  so_far = numbers_begin c.args.order.now c.requires.once _;
}

pub loop-place-preserved : goal.loop-place-preserved
loop-place-preserved c = record {
  long = length-set c.loop-place.numbers.items (get_or c.args.order.now c.loop-place.place 0) c.loop-place.place ∙ c.loop-place.invariant.long;
  so_far =
      let below = c.requires.below _ (Contains-get_or c.args.order.now c.loop-place.place 0 c.loop-place-test.true) in
      let long = c.loop-place.invariant.long in
      numbers_next c.args.order.now c.requires.once c.loop-place.numbers.items c.loop-place.place 0 c.loop-place-test.true
      (omega (arith, below, long))
      c.loop-place.invariant.so_far;
}

pub returns-clause-numbers : goal.returns-clause-numbers
returns-clause-numbers c =
    numbers_all c.args.order.now c.requires.once c.loop-place.numbers.items c.loop-place.place c.loop-place-test.false c.loop-place.invariant.so_far
