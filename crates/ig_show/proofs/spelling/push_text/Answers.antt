use Rattle.std.proofs.lemmas.Str.{IsUtf8-string_bytes}
use Rattle.ig_show.proofs.NumberSteps.{pushed}
use Rattle.ig_show.proofs.spelling.push_text.Goals as goal

pub returns : goal.returns
returns c = pushed c.args.text.now c.push_str.result (IsUtf8-string_bytes c.args.out.now) c.push_str.ensures.bytes
