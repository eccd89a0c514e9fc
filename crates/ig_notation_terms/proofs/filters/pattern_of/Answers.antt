use Rattle.std.proofs.Common.{ap, refl}
use Rattle.ig_text.specs.declared.pattern.Pattern.TheVariants.{Literal, OneOf}
use Rattle.ig_notation_syntax.specs.Rules as rule
use Rattle.ig_notation_terms.proofs.FilterParts.{pattern_is}
use Rattle.ig_notation_terms.proofs.filters.pattern_of.Goals as goal

pub returns-in_ok-literal_text-in-Literal : goal.returns-in_ok-literal_text-in-Literal
returns-in_ok-literal_text-in-Literal c =
    pattern_is _ _ _ _ c.in-Literal.is (ap Literal c.in_ok-literal_text-in-Literal.ensures) (rule.literal_pattern _)

pub returns-in_ok-class_of-in-Ranges : goal.returns-in_ok-class_of-in-Ranges
returns-in_ok-class_of-in-Ranges c =
    pattern_is _ _ _ _ c.in-Ranges.is (ap OneOf c.in_ok-class_of-in-Ranges.ensures) (rule.class_pattern _)

pub returns-in-Any : goal.returns-in-Any
returns-in-Any c = pattern_is _ _ _ _ c.in-Any.is refl (rule.class_pattern _)

pub returns-in-XidStart : goal.returns-in-XidStart
returns-in-XidStart c = pattern_is _ _ _ _ c.in-XidStart.is refl (rule.class_pattern _)

pub returns-in-XidContinue : goal.returns-in-XidContinue
returns-in-XidContinue c = pattern_is _ _ _ _ c.in-XidContinue.is refl (rule.class_pattern _)

pub returns-in_ok-new-in-Exact : goal.returns-in_ok-new-in-Exact
returns-in_ok-new-in-Exact c =
    pattern_is _ _ _ _ c.in-Exact.is (ap Literal c.in_ok-new-in-Exact.ensures) (rule.literal_pattern _)

pub returns-in_ok-character_text-in-Character : goal.returns-in_ok-character_text-in-Character
returns-in_ok-character_text-in-Character c =
    pattern_is _ _ _ _ c.in-Character.is (ap Literal c.in_ok-character_text-in-Character.ensures) (rule.literal_pattern _)

pub returns-in_ok-made-in-Made : goal.returns-in_ok-made-in-Made
returns-in_ok-made-in-Made c =
    pattern_is _ _ _ _ c.in-Made.is (ap OneOf c.in_ok-made-in-Made.ensures) (rule.class_pattern _)
