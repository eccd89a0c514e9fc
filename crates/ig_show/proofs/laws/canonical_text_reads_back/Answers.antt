use Rattle.ig_show.proofs.ReadBack.{reads_back}
use Rattle.ig_show.proofs.laws.canonical_text_reads_back.Goals as goal

pub returns : goal.returns
returns c =
    reads_back c.ended_tokens_are_longest.ensures c.fixed_tokens_are_spelled.ensures c.tokens_are_spelled.ensures
