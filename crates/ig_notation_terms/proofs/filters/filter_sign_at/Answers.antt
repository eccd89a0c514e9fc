use Rattle.std.proofs.Common.{rules}
use Rattle.ig_notation_terms.specs.Readers.{at_token}
use Rattle.ig_notation_terms.specs.Steps.{stands_as}
use Rattle.ig_notation_terms.proofs.filters.filter_sign_at.Goals as goal

pub returns-in_default : goal.returns-in_default
returns-in_default c = at_token _ c.in_ok-get.ensures (search rules)

pub returns-in-NotFollowedBy : goal.returns-in-NotFollowedBy
returns-in-NotFollowedBy c = stands_as _ _ _ _ c.in_ok-get.ensures c.in-NotFollowedBy.is

pub returns-in-NotPrecededBy : goal.returns-in-NotPrecededBy
returns-in-NotPrecededBy c = stands_as _ _ _ _ c.in_ok-get.ensures c.in-NotPrecededBy.is

pub returns-in-Backslash : goal.returns-in-Backslash
returns-in-Backslash c = stands_as _ _ _ _ c.in_ok-get.ensures c.in-Backslash.is
