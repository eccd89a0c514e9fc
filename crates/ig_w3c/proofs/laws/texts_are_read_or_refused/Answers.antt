use Rattle.ig_w3c.proofs.Readings.{not_both}
use Rattle.ig_w3c.proofs.laws.texts_are_read_or_refused.Goals as goal

pub returns : goal.returns
returns c =
    not_both c.tokens_are_single.ensures c.texts_never_do_both.ensures
