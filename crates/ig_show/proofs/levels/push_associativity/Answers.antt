use Rattle.std.proofs.Common.{◌∷◌, refl}
use Rattle.std.specs.Str.{chars}
use Rattle.ig_notation_syntax.specs.Token as sign
use Rattle.ig_notation_syntax.specs.Token.{Name, Head}
use Rattle.ig_show.specs.Pieces.{token, blank}
use Rattle.ig_show.specs.Steps.{if_ok, says}
use Rattle.ig_show.proofs.levels.push_associativity.Goals as goal

pub returns-in-Left : goal.returns-in-Left
unfolding chars
returns-in-Left c = rw c.in-Left.is (if_ok c.push_text.result c.push_text.ensures (λ h. says (λ ps. token sign.Left ∷ blank ∷ ps) h (λ _. refl)))

pub returns-in-Right : goal.returns-in-Right
unfolding chars
returns-in-Right c = rw c.in-Right.is (if_ok c.push_text-in-Right.result c.push_text-in-Right.ensures (λ h. says (λ ps. token sign.Right ∷ blank ∷ ps) h (λ _. refl)))

pub returns-in-Nonassoc : goal.returns-in-Nonassoc
unfolding chars
returns-in-Nonassoc c = rw c.in-Nonassoc.is (if_ok c.push_text-in-Nonassoc.result c.push_text-in-Nonassoc.ensures (λ h. says (λ ps. token sign.Nonassoc ∷ blank ∷ ps) h (λ _. refl)))
