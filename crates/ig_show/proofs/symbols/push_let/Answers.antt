use Rattle.std.proofs.Common.{◌∷◌, refl}
use Rattle.std.specs.Str.{chars}
use Rattle.ig_notation_syntax.specs.Token as sign
use Rattle.ig_notation_syntax.specs.Token.{Name, Head, Comma, Open, Close}
use Rattle.ig_show.specs.Pieces.{token, blank}
use Rattle.ig_show.specs.Steps.{if_ok, adds, says}
use Rattle.ig_show.proofs.symbols.push_let.Goals as goal

pub returns : goal.returns
unfolding chars
returns c = if_ok c.push_text-3.result c.push_text-3.ensures (λ h. adds (says (λ ps. token sign.Let ∷ blank ∷ ps) c.in_ok-push_text.ensures (λ _. refl)) (adds c.in_ok-push_name.ensures (adds (says (λ ps. blank ∷ token sign.Equals ∷ blank ∷ token Open ∷ ps) c.in_ok-push_text-2.ensures (λ _. refl)) (adds c.in_ok-push_expression.ensures (says (λ ps. token Close ∷ ps) h (λ _. refl))))))
