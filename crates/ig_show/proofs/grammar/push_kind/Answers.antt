use Rattle.std.specs.Prelude.{codes}
use Rattle.std.proofs.Common.{◌∷◌, refl}
use Rattle.std.specs.Str.{chars}
use Rattle.ig_notation_syntax.specs.Token as sign
use Rattle.ig_notation_syntax.specs.Token.{Name, Head}
use Rattle.ig_show.specs.Pieces.{token, blank}
use Rattle.ig_show.specs.Steps.{if_ok, says}
use Rattle.ig_show.proofs.grammar.push_kind.Goals as goal

pub returns-in-Syntax : goal.returns-in-Syntax
unfolding chars
returns-in-Syntax c = rw c.in-Syntax.is (if_ok c.push_text.result c.push_text.ensures (λ h. says (λ ps. token sign.Syntax ∷ blank ∷ ps) h (λ _. refl)))

pub returns-in-Lexical : goal.returns-in-Lexical
unfolding chars
returns-in-Lexical c = rw c.in-Lexical.is (if_ok c.push_text-in-Lexical.result c.push_text-in-Lexical.ensures (λ h. says (λ ps. token sign.Lexical ∷ blank ∷ ps) h (λ _. refl)))

pub returns-in-Layout : goal.returns-in-Layout
unfolding chars
returns-in-Layout c = rw c.in-Layout.is (if_ok c.push_text-in-Layout.result c.push_text-in-Layout.ensures (λ h. says (λ ps. token sign.Layout ∷ blank ∷ ps) h (λ _. refl)))

pub returns-in-Plain : goal.returns-in-Plain
unfolding chars
returns-in-Plain c = rw c.in-Plain.is (if_ok c.push_text-in-Plain.result c.push_text-in-Plain.ensures (λ h. says (λ ps. token (Name (codes "plain")) ∷ blank ∷ ps) h (λ _. refl)))
