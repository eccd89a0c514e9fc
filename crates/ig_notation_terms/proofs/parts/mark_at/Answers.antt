use Rattle.std.proofs.Common.{rules}
use Rattle.ig_notation_terms.specs.Steps.{stands_as}
use Rattle.ig_notation_terms.proofs.Around.{post_first}
use Rattle.ig_notation_terms.proofs.parts.mark_at.Goals as goal

pub returns-in-Offside : goal.returns-in-Offside
returns-in-Offside c = stands_as _ _ _ _ c.in_ok-get.ensures c.in-Offside.is

pub returns-in-Ignore : goal.returns-in-Ignore
returns-in-Ignore c = stands_as _ _ _ _ c.in_ok-get.ensures c.in-Ignore.is

pub returns-in-Align : goal.returns-in-Align
returns-in-Align c = stands_as _ _ _ _ c.in_ok-get.ensures c.in-Align.is

pub returns-in_default : goal.returns-in_default
returns-in_default c = post_first _ _ _ c.in_ok-get.ensures (search rules)
