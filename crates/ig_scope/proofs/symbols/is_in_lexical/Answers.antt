use Rattle.std.proofs.Common.{refl}
use Rattle.ig_scope.proofs.symbols.is_in_lexical.Goals as goal

pub returns-in-Lexical : goal.returns-in-Lexical
returns-in-Lexical c = rw c.in-Lexical.is (λ t. tt, λ p. refl)

pub returns-in-Layout : goal.returns-in-Layout
returns-in-Layout c = rw c.in-Layout.is (λ t. tt, λ p. refl)
