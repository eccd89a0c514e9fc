use Rattle.std.proofs.Common.{◌∷◌, refl}
use Rattle.std.specs.Str.{chars}
use Rattle.ig_notation_syntax.specs.Token as sign
use Rattle.ig_notation_syntax.specs.Token.{Name, Head, Comma, Open, Close}
use Rattle.ig_show.specs.Pieces.{token}
use Rattle.ig_show.specs.Steps.{if_ok, says}
use Rattle.ig_show.proofs.signs.push_truth.Goals as goal

pub returns-then-truth : goal.returns-then-truth
unfolding chars
returns-then-truth c =
    rw c.if-truth.true (if_ok c.push_text.result c.push_text.ensures (λ h. says (λ ps. token sign.True ∷ ps) h (λ _. refl)))

pub returns-else-truth : goal.returns-else-truth
unfolding chars
returns-else-truth c =
    rw c.if-truth.false (if_ok c.push_text-else-truth.result c.push_text-else-truth.ensures (λ h. says (λ ps. token sign.False ∷ ps) h (λ _. refl)))
