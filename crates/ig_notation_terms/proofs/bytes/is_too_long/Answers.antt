use Rattle.std.proofs.Common.{length}
use Rattle.std.proofs.lemmas.Bool.Decides.{Decides-ltb}
use Rattle.ig_notation_syntax.specs.Notation.{most_bytes}
use Rattle.ig_notation_terms.proofs.bytes.is_too_long.Goals as goal

pub returns : goal.returns
returns c = Decides-ltb most_bytes (length c.args.source.now)
