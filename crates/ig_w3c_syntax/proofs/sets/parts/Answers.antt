use Rattle.std.proofs.Common.{chars}
use Rattle.ig_w3c_syntax.proofs.Determined.{no_parts_yet, one_part_more, all_parts, never_parts, part_shorter}
use Rattle.ig_w3c_syntax.proofs.sets.parts.Goals as goal

pub loop-part-init : goal.loop-part-init
loop-part-init c = (c.utf8.text, no_parts_yet (chars c.args.text.now) c.new-parts.result.items c.new-parts.ensures.items)

pub loop-part-smaller : goal.loop-part-smaller
loop-part-smaller c = part_shorter c.in-Some.ensures.1

pub loop-part-preserved : goal.loop-part-preserved
loop-part-preserved c = (
  c.in-Some.ensures.0,
  one_part_more (chars c.args.text.now) (chars c.loop-part.rest.now) (chars c.in-Some.more.now) c.loop-part.parts.items c.add.new.parts.items
      c.in-Some.part c.loop-part.invariant.1 c.in-Some.ensures.1 c.in_ok-add.ensures.ok,
)

pub returns-in-Some-behind : goal.returns-in-Some-behind
returns-in-Some-behind c = (
  c.in-Some-behind.ensures.0,
  all_parts (chars c.args.text.now) (chars c.loop-part.rest.now) (chars c.in-Some-behind.behind.now) c.loop-part.parts.items
      c.loop-part.invariant.1 c.in-Some-behind.ensures.1,
)

pub returns : goal.returns
returns c =
    never_parts (chars c.args.text.now) (chars c.loop-part.rest.now) c.loop-part.parts.items c.loop-part.invariant.1 c.in_default.ensures
    c.in-None.ensures
