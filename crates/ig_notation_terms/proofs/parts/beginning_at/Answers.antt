use Rattle.std.proofs.Common.{rules, refl, []}
use Rattle.ig_notation_syntax.specs.Machine as want
use Rattle.ig_notation_terms.specs.Steps.{stands_as}
use Rattle.ig_notation_terms.proofs.Around.{both_end, name_first, marked_first}
use Rattle.ig_notation_terms.proofs.parts.beginning_at.Goals as goal

pub returns-in_default : goal.returns-in_default
returns-in_default c = both_end want.symbol want.marked [] [] _ _ refl refl c.in_default.ensures

pub returns-in-When : goal.returns-in-When
returns-in-When c = stands_as _ _ _ _ c.in-Some.ensures c.in-When.is

pub returns-in-Let : goal.returns-in-Let
returns-in-Let c = stands_as _ _ _ _ c.in-Some.ensures c.in-Let.is

pub returns-then-stands_at : goal.returns-then-stands_at
returns-then-stands_at c = record { word = stands_as _ _ _ _ c.in-Some.ensures c.in-Name.is; colon = c.stands_at.ensures.yes c.if-stands_at.true }

pub returns-else-stands_at : goal.returns-else-stands_at
returns-else-stands_at c = name_first _ _ _ (stands_as _ _ _ _ c.in-Some.ensures c.in-Name.is) (c.stands_at.ensures.no c.if-stands_at.false)

pub returns-in_default-token : goal.returns-in_default-token
returns-in_default-token c = marked_first _ _ _ c.in-Some.ensures (search rules)
