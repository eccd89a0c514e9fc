use Rattle.std.proofs.Common.{[], ◌∷◌, ◌++◌}
use Rattle.std.specs.Prelude.{flat_map}
use Rattle.std.specs.Str.{chars}
use Rattle.ig_show.specs.Steps.{if_ok, appends}
use Rattle.ig_w3c.specs.Text.{level_text}
use Rattle.ig_w3c.proofs.Steps.{shown}
use Rattle.ig_w3c.proofs.grammar.push_rule.Goals as goal

pub returns : goal.returns
unfolding chars
returns c =
    if_ok c.push_text-3.result c.push_text-3.ensures
    (λ h. appends (shown (λ z. z) c.as_str.ensures c.in_ok-push_text.ensures)
    (appends c.in_ok-push_text-2.ensures
    (appends (shown (flat_map level_text) c.as_slice.ensures c.in_ok-push_levels.ensures) h)))
