use Rattle.std.proofs.lemmas.Str.{IsUtf8-string_bytes}
use Rattle.ig_show.proofs.NumberSteps.{pushed_character}
use Rattle.ig_show.proofs.spelling.push_character.Goals as goal

pub returns : goal.returns
returns c = pushed_character c.args.character c.push.result c.ranges.character.0 (IsUtf8-string_bytes c.args.out.now) c.push.ensures.bytes
