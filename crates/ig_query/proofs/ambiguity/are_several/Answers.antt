use Rattle.std.proofs.Common.{length}
use Rattle.std.proofs.lemmas.Bool.Decides.{Decides-ltb}
use Rattle.ig_query.proofs.ambiguity.are_several.Goals as goal

pub returns : goal.returns
returns c = Decides-ltb 1 (length c.args.alternatives.now)
