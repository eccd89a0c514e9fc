use Rattle.std.proofs.Common.{◌∷◌}
use Rattle.ig_show.specs.Pieces.{token}
use Rattle.ig_show.specs.Signs.{pattern_token}
use Rattle.ig_show.specs.Steps.{if_ok, adds}
use Rattle.ig_show.proofs.Steps.{shown_as}
use Rattle.ig_show.proofs.symbols.push_filter.Goals as goal

pub returns : goal.returns
returns c =
    if_ok c.push_pattern.result c.push_pattern.ensures
    (λ h. adds c.in_ok-push_filter_sign.ensures (shown_as (λ p ps. token (pattern_token p) ∷ ps) c.filter_pattern.ensures h))
