use Rattle.std.specs.Str.{chars}
use Rattle.ig_show.specs.Steps.{if_ok, appends}
use Rattle.ig_w3c.proofs.spelling.push_ends.Goals as goal

pub returns : goal.returns
unfolding chars
returns c = if_ok c.push_code-2.result c.push_code-2.ensures (λ h. appends c.in_ok-push_code.ensures (appends c.in_ok-push_text.ensures h))
