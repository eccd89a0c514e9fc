use Rattle.std.proofs.Common.{◌∙◌, ap, not}
use Rattle.ig_notation_syntax.proofs.LetterSteps.{is_literal_all, literal_ends}
use Rattle.ig_notation_syntax.proofs.literals.is_literal.Goals as goal

pub returns-then-not-is_escaped : goal.returns-then-not-is_escaped
returns-then-not-is_escaped c =
    is_literal_all c.args.inside.now c.is_empty-is_empty.result c.utf8.inside c.is_empty-is_empty.ensures
    (c.loop-c.invariant.1 ∙ literal_ends c.loop-c.is_escaped _ c.in_default.ensures ∙ ap not c.if-not-is_escaped.true)
