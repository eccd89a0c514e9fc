use Rattle.std.proofs.Common.{◌∷◌, refl}
use Rattle.std.specs.Str.{chars}
use Rattle.ig_notation_syntax.specs.Token as sign
use Rattle.ig_show.specs.Pieces.{token, blank}
use Rattle.ig_show.specs.Steps.{if_ok, says}
use Rattle.ig_show.proofs.symbols.push_filter_sign.Goals as goal

pub returns-in-NotFollowed : goal.returns-in-NotFollowed
unfolding chars
returns-in-NotFollowed c = rw c.in-NotFollowed.is (if_ok c.push_text.result c.push_text.ensures (λ h. says (λ ps. token sign.NotFollowedBy ∷ blank ∷ ps) h (λ _. refl)))

pub returns-in-NotPreceded : goal.returns-in-NotPreceded
unfolding chars
returns-in-NotPreceded c = rw c.in-NotPreceded.is (if_ok c.push_text-in-NotPreceded.result c.push_text-in-NotPreceded.ensures (λ h. says (λ ps. token sign.NotPrecededBy ∷ blank ∷ ps) h (λ _. refl)))

pub returns-in-Not : goal.returns-in-Not
unfolding chars
returns-in-Not c = rw c.in-Not.is (if_ok c.push_text-in-Not.result c.push_text-in-Not.ensures (λ h. says (λ ps. token sign.Backslash ∷ blank ∷ ps) h (λ _. refl)))
