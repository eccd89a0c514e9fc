use Rattle.std.proofs.Common.{◌∙◌}
use Rattle.ig_notation_syntax.proofs.RangeSteps.{is_class_all, is_class_none}
use Rattle.ig_notation_syntax.proofs.classes.is_class.Goals as goal

pub returns-then-not-is_empty : goal.returns-then-not-is_empty
returns-then-not-is_empty c =
    c.are_ranges.ensures ∙
    is_class_all c.split_negation.result.0 c.is_empty.result c.args.inside.now c.split_negation.result.1.now
    c.split_negation.ensures c.is_empty.ensures c.if-not-is_empty.true

pub returns-else-not-is_empty : goal.returns-else-not-is_empty
returns-else-not-is_empty c =
    is_class_none c.split_negation.result.0 c.is_empty.result c.args.inside.now c.split_negation.result.1.now
    c.split_negation.ensures c.is_empty.ensures c.if-not-is_empty.false
