use Rattle.std.proofs.Common.{rules}
use Rattle.ig_notation_terms.specs.Readers.{at_token}
use Rattle.ig_notation_terms.specs.Steps.{stands_as}
use Rattle.ig_notation_terms.proofs.repetitions.repetition_at.Goals as goal

pub returns-in_default : goal.returns-in_default
returns-in_default c = at_token _ c.in_ok-get.ensures (search rules)

pub returns-in-Question : goal.returns-in-Question
returns-in-Question c = stands_as _ _ _ _ c.in_ok-get.ensures c.in-Question.is

pub returns-in-Star : goal.returns-in-Star
returns-in-Star c = stands_as _ _ _ _ c.in_ok-get.ensures c.in-Star.is

pub returns-in-Plus : goal.returns-in-Plus
returns-in-Plus c = stands_as _ _ _ _ c.in_ok-get.ensures c.in-Plus.is
