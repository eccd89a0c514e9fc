use Rattle.ig_load.proofs.Reading.{load_text_reads}
use Rattle.ig_load.proofs.laws.load_text_reads.Goals as goal

pub returns : goal.returns
returns c = load_text_reads c.ended_tokens_are_longest.ensures
