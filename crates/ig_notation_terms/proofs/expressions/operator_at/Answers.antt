use Rattle.std.proofs.Common.{rules}
use Rattle.ig_notation_syntax.specs.Rules as rule
use Rattle.ig_notation_terms.specs.Readers.{at_token}
use Rattle.ig_notation_terms.specs.Steps.{found_at}
use Rattle.ig_notation_terms.proofs.expressions.operator_at.Goals as goal

pub returns-in-Plus : goal.returns-in-Plus
returns-in-Plus c = found_at _ _ _ _ _ c.in_ok-get.ensures c.in-Plus.is rule.addition

pub returns-in-Minus : goal.returns-in-Minus
returns-in-Minus c = found_at _ _ _ _ _ c.in_ok-get.ensures c.in-Minus.is rule.subtraction

pub returns-in-Star : goal.returns-in-Star
returns-in-Star c = found_at _ _ _ _ _ c.in_ok-get.ensures c.in-Star.is rule.multiplication

pub returns-in-Div : goal.returns-in-Div
returns-in-Div c = found_at _ _ _ _ _ c.in_ok-get.ensures c.in-Div.is rule.division

pub returns-in-Mod : goal.returns-in-Mod
returns-in-Mod c = found_at _ _ _ _ _ c.in_ok-get.ensures c.in-Mod.is rule.remainder

pub returns-in-Less : goal.returns-in-Less
returns-in-Less c = found_at _ _ _ _ _ c.in_ok-get.ensures c.in-Less.is rule.less

pub returns-in-AtMost : goal.returns-in-AtMost
returns-in-AtMost c = found_at _ _ _ _ _ c.in_ok-get.ensures c.in-AtMost.is rule.less_equal

pub returns-in-Greater : goal.returns-in-Greater
returns-in-Greater c = found_at _ _ _ _ _ c.in_ok-get.ensures c.in-Greater.is rule.greater

pub returns-in-AtLeast : goal.returns-in-AtLeast
returns-in-AtLeast c = found_at _ _ _ _ _ c.in_ok-get.ensures c.in-AtLeast.is rule.greater_equal

pub returns-in-EqualTo : goal.returns-in-EqualTo
returns-in-EqualTo c = found_at _ _ _ _ _ c.in_ok-get.ensures c.in-EqualTo.is rule.equal

pub returns-in-NotEqualTo : goal.returns-in-NotEqualTo
returns-in-NotEqualTo c = found_at _ _ _ _ _ c.in_ok-get.ensures c.in-NotEqualTo.is rule.not_equal

pub returns-in-And : goal.returns-in-And
returns-in-And c = found_at _ _ _ _ _ c.in_ok-get.ensures c.in-And.is rule.conjunction

pub returns-in-Or : goal.returns-in-Or
returns-in-Or c = found_at _ _ _ _ _ c.in_ok-get.ensures c.in-Or.is rule.disjunction

pub returns-in_default : goal.returns-in_default
returns-in_default c = at_token _ c.in_ok-get.ensures (search rules)
