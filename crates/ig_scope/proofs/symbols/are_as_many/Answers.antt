use Rattle.std.proofs.Common.{arith}
use Rattle.std.proofs.lemmas.Bool.Decides.{nat_tests}
use Rattle.ig_scope.proofs.symbols.are_as_many.Goals as goal

pub returns : goal.returns
returns c = (λ t. grind (arith, nat_tests), λ e. grind (arith, nat_tests))
