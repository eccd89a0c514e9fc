use Rattle.ig_w3c_syntax.specs.Spelling.{StandsFirst, IsSeparator}
use Rattle.ig_w3c_syntax.proofs.OneList.{one_list}
use Rattle.ig_w3c_syntax.proofs.Firsts.{given}
use Rattle.ig_w3c_syntax.proofs.Longest.{set_longest}
use Rattle.ig_w3c_syntax.proofs.Read.{read_begin}
use Rattle.ig_w3c_syntax.proofs.token_laws.tokens_are_single.Goals as goal

pub returns : goal.returns
returns c at text ts us l u = one_list StandsFirst IsSeparator given l us u
