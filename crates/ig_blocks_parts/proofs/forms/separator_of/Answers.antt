use Rattle.ig_blocks_parts.proofs.forms.separator_of.Goals as goal

pub returns : goal.returns
returns c = c.item_of.ensures
