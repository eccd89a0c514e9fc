use Rattle.std.proofs.Common.{◌∷◌, refl}
use Rattle.std.specs.Str.{chars}
use Rattle.ig_notation_syntax.specs.Token as sign
use Rattle.ig_show.specs.Pieces.{token, blank}
use Rattle.ig_show.specs.Steps.{if_ok, says}
use Rattle.ig_show.proofs.levels.push_greater.Goals as goal

pub returns : goal.returns
unfolding chars
returns c =
    if_ok c.push_text.result c.push_text.ensures (λ h. says (λ ps. blank ∷ token sign.Greater ∷ blank ∷ ps) h (λ _. refl))
