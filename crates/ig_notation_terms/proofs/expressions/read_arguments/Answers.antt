use Rattle.ig_notation_terms.specs.Lists.{none_yet}
use Rattle.ig_notation_terms.proofs.ExpressionParts.{more_arguments, closed_arguments}
use Rattle.ig_notation_terms.proofs.expressions.read_arguments.Goals as goal

pub loop-arguments-init : goal.loop-arguments-init
loop-arguments-init c = none_yet _ _ _ _ _ c.requires c.new-arguments.ensures

pub returns-then-not-stands_at-clause-ok : goal.returns-then-not-stands_at-clause-ok
returns-then-not-stands_at-clause-ok c =
    closed_arguments _ _ _ _ _ _ _ _ c.loop-arguments.invariant c.in_ok-argument.ensures.ok (c.stands_at.ensures.no c.if-not-stands_at.true)
    c.in_ok-end.ensures.ok c.in_ok-add_argument.ensures.ok

pub loop-arguments-preserved : goal.loop-arguments-preserved
loop-arguments-preserved c =
    more_arguments _ _ _ _ _ _ _ c.loop-arguments.invariant c.in_ok-argument.ensures.ok (c.stands_at.ensures.yes c.if-not-stands_at.false)
    c.in_ok-add_argument.ensures.ok
