use Rattle.ig_w3c_syntax.specs.Spelling.{StandsFirst, IsSeparator}
use Rattle.ig_w3c_syntax.proofs.OneList.{one_break}
use Rattle.ig_w3c_syntax.proofs.Firsts.{given}
use Rattle.ig_w3c_syntax.proofs.token_laws.break_is_single.Goals as goal

pub returns : goal.returns
returns c at text a b u v = one_break StandsFirst IsSeparator given u b v
