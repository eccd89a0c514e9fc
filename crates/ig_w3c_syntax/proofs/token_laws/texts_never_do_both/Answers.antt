use Rattle.ig_w3c_syntax.specs.Spelling.{StandsFirst, IsSeparator}
use Rattle.ig_w3c_syntax.proofs.OneList.{not_both}
use Rattle.ig_w3c_syntax.proofs.Firsts.{given}
use Rattle.ig_w3c_syntax.proofs.token_laws.texts_never_do_both.Goals as goal

pub returns : goal.returns
returns c at text ts b l u = not_both StandsFirst IsSeparator given l b u
