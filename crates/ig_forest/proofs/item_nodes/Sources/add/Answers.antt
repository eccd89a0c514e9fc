use Rattle.std.proofs.Common.{◌≡◌, length, rules}
use Rattle.ig_forest.proofs.CodeItemNodes.{adds_one, adds_all, one_of_each, further_fits}
use Rattle.ig_forest.proofs.item_nodes.Sources.add.Goals as goal

pub row-row-requires : goal.row-row-requires
row-row-requires c = c.requires.sources.there c.args.number c.requires.live

pub first-requires : goal.first-requires
first-requires c = c.requires.sources.found c.args.number c.requires.live

pub returns-then-is_empty : goal.returns-then-is_empty
returns-then-is_empty c =
    let none : length c.further-further.result.now ≡ 0 = search rules in
    adds_one c.args.self.now c.requires.sources c.args.number c.requires.live c.row-row.result c.row-row.ensures c.first.result c.first.ensures.way
    c.entry-first.result c.entry-first.ensures c.further-further.result.now c.further-further.ensures none c.args.table.now c.push_one.new.self
    c.in_ok-push_one.ensures

pub gather-requires : goal.gather-requires
gather-requires c = further_fits c.args.self.now c.requires.sources c.args.number c.requires.live c.further-further.result.now
    c.further-further.ensures

pub put_in_order-requires : goal.put_in_order-requires
put_in_order-requires c =
    one_of_each c.args.self.now c.requires.sources c.args.number c.requires.live c.row-row.result c.row-row.ensures c.first.result c.first.ensures.way
    c.entry-first.result c.entry-first.ensures c.further-further.result.now c.further-further.ensures c.gather.new.entries.items c.push.new.self.items
    c.in_ok-gather.ensures c.in_ok-push.ensures.items

pub returns : goal.returns
returns c =
    adds_all c.args.self.now c.requires.sources c.args.number c.requires.live c.row-row.result c.row-row.ensures c.first.result c.first.ensures.way
    c.entry-first.result c.entry-first.ensures c.further-further.result.now c.further-further.ensures c.gather.new.entries.items c.push.new.self.items
    c.in_ok-gather.ensures c.in_ok-push.ensures.items c.put_in_order.new.entries.items c.as_slice.result.now c.put_in_order.ensures
    c.as_slice.ensures.value
    c.args.table.now c.push-2.new.self c.in_ok-push-2.ensures
