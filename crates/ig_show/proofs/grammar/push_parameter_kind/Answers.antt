use Rattle.std.proofs.Common.{◌∷◌, refl}
use Rattle.std.specs.Str.{chars}
use Rattle.ig_notation_syntax.specs.Token as sign
use Rattle.ig_show.specs.Pieces.{token, blank}
use Rattle.ig_show.specs.Steps.{if_ok, says}
use Rattle.ig_show.proofs.grammar.push_parameter_kind.Goals as goal

pub returns-in-Int : goal.returns-in-Int
unfolding chars
returns-in-Int c = rw c.in-Int.is (if_ok c.push_text.result c.push_text.ensures (λ h. says (λ ps. token sign.Colon ∷ blank ∷ token sign.Int ∷ ps) h (λ _. refl)))

pub returns-in-Bool : goal.returns-in-Bool
unfolding chars
returns-in-Bool c = rw c.in-Bool.is (if_ok c.push_text-in-Bool.result c.push_text-in-Bool.ensures (λ h. says (λ ps. token sign.Colon ∷ blank ∷ token sign.Bool ∷ ps) h (λ _. refl)))

pub returns-in-Span : goal.returns-in-Span
unfolding chars
returns-in-Span c = rw c.in-Span.is (if_ok c.push_text-in-Span.result c.push_text-in-Span.ensures (λ h. says (λ ps. token sign.Colon ∷ blank ∷ token sign.Span ∷ ps) h (λ _. refl)))
