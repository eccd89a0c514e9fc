use Rattle.std.proofs.Common.{◌∷◌, refl}
use Rattle.std.specs.Str.{chars}
use Rattle.ig_notation_syntax.specs.Token.{Head}
use Rattle.ig_show.specs.Pieces.{token}
use Rattle.ig_show.specs.Steps.{if_ok, says, appends}
use Rattle.ig_show.proofs.spelling.push_head.Goals as goal

pub returns : goal.returns
unfolding chars
returns c =
    if_ok c.push_text-2.result c.push_text-2.ensures
    (λ h. says (λ ps. token (Head c.args.name.now) ∷ ps) (appends c.in_ok-push_text.ensures h) (λ _. rw c.as_str.ensures refl))
