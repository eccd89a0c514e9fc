use Rattle.std.proofs.Common.{◌∷◌, refl}
use Rattle.std.specs.Str.{chars}
use Rattle.ig_notation_syntax.specs.Token.{OneOf}
use Rattle.ig_show.specs.Pieces.{token}
use Rattle.ig_show.specs.Steps.{if_ok, says}
use Rattle.ig_show.proofs.spelling.push_class.Goals as goal

pub returns-in-XidStart : goal.returns-in-XidStart
unfolding chars
returns-in-XidStart c =
    if_ok c.push_text.result c.push_text.ensures (λ h. says (λ ps. token (OneOf c.args.class.now) ∷ ps) h (λ _. rw c.in-XidStart.is refl))

pub returns-in-XidContinue : goal.returns-in-XidContinue
unfolding chars
returns-in-XidContinue c =
    if_ok c.push_text-in-XidContinue.result c.push_text-in-XidContinue.ensures (λ h. says (λ ps. token (OneOf c.args.class.now) ∷ ps) h (λ _. rw c.in-XidContinue.is refl))

pub returns-in-Any : goal.returns-in-Any
unfolding chars
returns-in-Any c =
    if_ok c.push_text-in-Any.result c.push_text-in-Any.ensures (λ h. says (λ ps. token (OneOf c.args.class.now) ∷ ps) h (λ _. rw c.in-Any.is refl))
