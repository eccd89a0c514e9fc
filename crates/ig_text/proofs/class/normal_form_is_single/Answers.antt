use Rattle.ig_text.proofs.NormalForm.{one_normal_form}
use Rattle.ig_text.proofs.class.normal_form_is_single.Goals as goal

pub returns : goal.returns
returns c = one_normal_form
