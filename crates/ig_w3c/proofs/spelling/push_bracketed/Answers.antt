use Rattle.std.specs.Str.{chars}
use Rattle.ig_show.specs.Steps.{if_ok, appends}
use Rattle.ig_w3c.proofs.spelling.push_bracketed.Goals as goal

pub returns : goal.returns
unfolding chars
returns c =
    if_ok c.push_text-2.result c.push_text-2.ensures
    (λ h. appends c.in_ok-push_text.ensures (appends c.in_ok-push_negation.ensures (appends c.in_ok-push_ranges.ensures h)))
