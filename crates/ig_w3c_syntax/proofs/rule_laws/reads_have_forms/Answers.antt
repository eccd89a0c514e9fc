use Rattle.ig_w3c_syntax.proofs.Kept.{reads_have_forms}
use Rattle.ig_w3c_syntax.proofs.rule_laws.reads_have_forms.Goals as goal

pub returns : goal.returns
returns c = reads_have_forms c.one_reading.ensures
