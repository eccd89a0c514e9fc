use Rattle.ig_show_texts.proofs.value_lists.behind.Goals as goal

pub returns : goal.returns
returns c = c.split_at.ensures.back
