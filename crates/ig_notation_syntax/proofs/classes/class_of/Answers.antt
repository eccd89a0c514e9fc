use Rattle.std.proofs.Common.{refl, chars}
use Rattle.ig_notation_syntax.proofs.RangeSteps.{added_rise}
use Rattle.ig_notation_syntax.proofs.classes.class_of.Goals as goal

pub ranges-requires : goal.ranges-requires
ranges-requires c =
    added_rise _ (chars c.split_negation-negated.result.1.now) c.new-ranges.result.items c.add_ranges.new.ranges.items
    c.as_slice.result.now c.in_ok-are_ranges.are_ranges c.if-are_ranges.true refl c.in_ok-are_ranges.ensures
    c.new-ranges.ensures.items c.as_slice.ensures.value
