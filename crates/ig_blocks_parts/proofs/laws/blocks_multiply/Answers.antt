use Rattle.ig_blocks_parts.proofs.Growing.{blocks_multiplied}
use Rattle.ig_blocks_parts.proofs.laws.blocks_multiply.Goals as goal

pub returns : goal.returns
returns c = blocks_multiplied c.counts_by_form.ensures c.counts_grow.ensures
