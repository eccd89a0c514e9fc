use Rattle.std.proofs.Common.{◌∷◌, refl}
use Rattle.std.specs.Str.{chars}
use Rattle.ig_notation_syntax.specs.Token.{Close}
use Rattle.ig_show.specs.Pieces.{token}
use Rattle.ig_show.specs.Steps.{if_ok, adds, says}
use Rattle.ig_show.proofs.expressions.push_last_pattern.Goals as goal

pub returns : goal.returns
unfolding chars
returns c = if_ok c.push_text.result c.push_text.ensures (λ h. adds c.in_ok-push_pattern.ensures (says (λ ps. token Close ∷ ps) h (λ _. refl)))
