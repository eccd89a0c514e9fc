use Rattle.std.specs.Str.{chars}
use Rattle.ig_show.specs.Steps.{if_ok, appends}
use Rattle.ig_w3c.proofs.spelling.push_excluded.Goals as goal

pub returns : goal.returns
unfolding chars
returns c = if_ok c.push_quoted.result c.push_quoted.ensures (λ h. appends c.in_ok-push_text.ensures h)
