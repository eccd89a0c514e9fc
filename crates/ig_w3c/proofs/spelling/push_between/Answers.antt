use Rattle.ig_show.specs.Steps.{if_ok, appends}
use Rattle.ig_w3c.specs.Text.{between}
use Rattle.ig_w3c.proofs.Steps.{shown}
use Rattle.ig_w3c.proofs.spelling.push_between.Goals as goal

pub returns : goal.returns
returns c =
    if_ok c.push_character-2.result c.push_character-2.ensures
    (λ h. shown (between c.args.quote) c.as_str.ensures (appends c.in_ok-push_character.ensures (appends c.in_ok-push_text.ensures h)))
