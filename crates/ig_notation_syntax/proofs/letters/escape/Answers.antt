use Rattle.std.proofs.Common.{refl}
use Rattle.ig_notation_syntax.proofs.LetterSteps.{escape_of}
use Rattle.ig_notation_syntax.proofs.letters.escape.Goals as goal

pub returns-in-n : goal.returns-in-n
returns-in-n c = escape_of _ _ 110 _ _ c.is_special.ensures c.if-is_special.false c.in-n.is refl

pub returns-in-r : goal.returns-in-r
returns-in-r c = escape_of _ _ 114 _ _ c.is_special.ensures c.if-is_special.false c.in-r.is refl

pub returns-in-t : goal.returns-in-t
returns-in-t c = escape_of _ _ 116 _ _ c.is_special.ensures c.if-is_special.false c.in-t.is refl
