use Rattle.std.proofs.Common.{◌∷◌, refl}
use Rattle.std.specs.Str.{chars}
use Rattle.ig_notation_syntax.specs.Token as sign
use Rattle.ig_notation_syntax.specs.Token.{Name, Head, Comma, Open, Close}
use Rattle.ig_show.specs.Pieces.{token, blank}
use Rattle.ig_show.specs.Steps.{if_ok, adds, says}
use Rattle.ig_show.proofs.symbols.push_guard.Goals as goal

pub returns : goal.returns
unfolding chars
returns c = if_ok c.push_text-2.result c.push_text-2.ensures (λ h. adds (says (λ ps. token sign.When ∷ blank ∷ token Open ∷ ps) c.in_ok-push_text.ensures (λ _. refl)) (adds c.in_ok-push_expression.ensures (says (λ ps. token Close ∷ ps) h (λ _. refl))))
