use Rattle.ig_grammar.specs.declared.declaration.DeclKind.TheVariants.{Syntax}
use Rattle.ig_pass.proofs.rooting.root_declaration.Goals as goal

pub returns : goal.returns
returns c = λ k. record { kind = Syntax; name = c.in_ok-name.ensures k; params = c.new.ensures k; levels = c.in_ok-levels.ensures k }
