use Rattle.std.proofs.Common.{refl}
use Rattle.std.proofs.lemmas.List.Elements.{Contains-get_or}
use Rattle.ig_item.specs.Ways.{again}
use Rattle.ig_forest_live.proofs.CodeWalk.{led_first, led_next, led_all}
use Rattle.ig_forest_live.proofs.marks.Walk.visit.Goals as goal

pub loop-further-init : goal.loop-further-init
loop-further-init c = record {
  more =
      led_first c.args.links.now.ways c.args.self.now c.follow.new.self c.first-first.result c.args.number c.further-further-items.result.now
      c.first-first.ensures.way c.in_ok-follow.ensures.more;
  whole = c.in_ok-follow.ensures.whole;
}

pub follow-requires-in-loop-further-clause-way : goal.follow-requires-in-loop-further-clause-way
follow-requires-in-loop-further-clause-way c =
    let among =
    (c.further-further-items.ensures _).0
    (Contains-get_or c.further-further-items.result.now c.loop-further.further-index (record { item = 0; prev = 0; done = 0 })
    c.loop-further-test.true) in
    record {
      recorded = c.first-first.ensures.recorded;
      number = c.args.number;
      to = again _ among.0 among.1 refl;
    }

pub loop-further-preserved : goal.loop-further-preserved
loop-further-preserved c = record {
  more =
      led_next c.args.links.now.ways c.args.self.now c.loop-further.self c.follow-in-loop-further.new.self c.args.number
      c.loop-further.further-index _ c.further-further-items.result.now (record { item = 0; prev = 0; done = 0 }) c.loop-further-test.true
      c.loop-further.invariant.more refl c.in_ok-follow-2.ensures.more;
  whole = c.in_ok-follow-2.ensures.whole;
}

pub returns-clause-more : goal.returns-clause-more
returns-clause-more c =
    led_all c.args.links.now.ways c.args.self.now c.loop-further.self c.args.number c.loop-further.further-index c.further-further-items.result.now
    c.further-further-items.ensures c.loop-further-test.false c.loop-further.invariant.more
