use Rattle.std.specs.Str.{chars}
use Rattle.ig_show.specs.Steps.{if_ok, appends}
use Rattle.ig_w3c.proofs.Steps.{few_digits}
use Rattle.ig_w3c.proofs.spelling.push_code.Goals as goal

pub returns : goal.returns
unfolding chars
returns c =
    if_ok c.push_digits.result c.push_digits.ensures
    (λ h. appends c.in_ok-push_text.ensures (h 5 (few_digits c.args.character c.ranges.character.0)))
