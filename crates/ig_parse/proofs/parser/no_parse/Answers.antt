use Rattle.std.proofs.Common.{refl}
use Rattle.ig_parse.proofs.parser.no_parse.Goals as goal

pub returns : goal.returns
returns c = refl
