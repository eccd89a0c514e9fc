use Rattle.std.specs.Str.{chars}
use Rattle.ig_show.specs.Steps.{if_ok, appends}
use Rattle.ig_show.proofs.spelling.push_ends.Goals as goal

pub returns : goal.returns
unfolding chars
returns c =
    if_ok c.push_class_character-2.result c.push_class_character-2.ensures
    (λ h. appends c.in_ok-push_class_character.ensures (appends c.in_ok-push_text.ensures h))
