use Rattle.ig_w3c_syntax.proofs.Formed.{tokens_have_forms}
use Rattle.ig_w3c_syntax.proofs.token_laws.tokens_have_forms.Goals as goal

pub returns : goal.returns
returns c = tokens_have_forms
