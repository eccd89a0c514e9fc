use Rattle.ig_show.proofs.ReadsBack.{tokens_follow}
use Rattle.ig_show.proofs.laws.canonical_tokens_follow.Goals as goal

pub returns : goal.returns
returns c = tokens_follow
