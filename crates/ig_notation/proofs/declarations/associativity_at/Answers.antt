use Rattle.std.proofs.Common.{rules, refl}
use Rattle.ig_notation_syntax.specs.Rules as rule
use Rattle.ig_notation_terms.specs.Readers.{at_token}
use Rattle.ig_notation_terms.specs.Steps.{found_at}
use Rattle.ig_notation.proofs.declarations.associativity_at.Goals as goal

pub returns-in-Left : goal.returns-in-Left
returns-in-Left c = found_at _ _ _ _ _ c.in_ok-get.ensures c.in-Left.is (record { begins = refl; reads = λ rest. rule.left rest })

pub returns-in-Right : goal.returns-in-Right
returns-in-Right c = found_at _ _ _ _ _ c.in_ok-get.ensures c.in-Right.is (record { begins = refl; reads = λ rest. rule.right rest })

pub returns-in-Nonassoc : goal.returns-in-Nonassoc
returns-in-Nonassoc c = found_at _ _ _ _ _ c.in_ok-get.ensures c.in-Nonassoc.is (record { begins = refl; reads = λ rest. rule.nonassoc rest })

pub returns-in_default : goal.returns-in_default
returns-in_default c = at_token _ c.in_ok-get.ensures (search rules)
