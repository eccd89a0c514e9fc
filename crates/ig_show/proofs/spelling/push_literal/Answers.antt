use Rattle.std.proofs.Common.{◌∷◌, refl}
use Rattle.std.specs.Str.{chars}
use Rattle.ig_notation_syntax.specs.Token.{Literal}
use Rattle.ig_show.specs.Pieces.{token}
use Rattle.ig_show.specs.Steps.{if_ok, says, appends}
use Rattle.ig_show.proofs.spelling.push_literal.Goals as goal

pub returns : goal.returns
unfolding chars
returns c =
    if_ok c.push_text-2.result c.push_text-2.ensures
    (λ h.
    says (λ ps. token (Literal c.args.word.now) ∷ ps)
    (appends c.in_ok-push_text.ensures (appends c.in_ok-push_literal_characters.ensures h)) (λ _. rw c.as_chars.ensures refl))
