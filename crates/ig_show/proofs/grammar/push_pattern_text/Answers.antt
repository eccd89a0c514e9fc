use Rattle.std.proofs.Common.{◌∷◌}
use Rattle.std.proofs.lemmas.Str.{IsUtf8-string_bytes}
use Rattle.ig_show.specs.Pieces.{token}
use Rattle.ig_show.specs.Signs.{pattern_token}
use Rattle.ig_show.specs.Steps.{if_ok}
use Rattle.ig_show.proofs.Bytes.{added_bytes}
use Rattle.ig_show.proofs.grammar.push_pattern_text.Goals as goal

pub returns : goal.returns
returns c =
    if_ok c.push_pattern.result c.push_pattern.ensures
    (added_bytes (λ ps. token (pattern_token c.args.pattern.now) ∷ ps) (IsUtf8-string_bytes c.args.out.now) (IsUtf8-string_bytes c.push_pattern.new.out))
