use Rattle.ig_text.proofs.Insertion.{form_is_normal}
use Rattle.ig_text.proofs.class.normal_form_is_normal.Goals as goal

pub returns : goal.returns
returns c = form_is_normal
