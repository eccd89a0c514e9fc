use Rattle.std.proofs.Common.{rules, refl}
use Rattle.ig_notation_syntax.specs.Rules as rule
use Rattle.ig_notation_terms.specs.Readers.{at_token}
use Rattle.ig_notation_terms.specs.Steps.{found_at}
use Rattle.ig_notation.proofs.declarations.read_decl_kind.Goals as goal

pub returns-in-Syntax-clause-ok : goal.returns-in-Syntax-clause-ok
returns-in-Syntax-clause-ok c = found_at _ _ _ _ _ c.in_ok-ahead.ensures.ok c.in-Syntax.is rule.syntax

pub returns-in-Lexical-clause-ok : goal.returns-in-Lexical-clause-ok
returns-in-Lexical-clause-ok c = found_at _ _ _ _ _ c.in_ok-ahead.ensures.ok c.in-Lexical.is rule.lexical

pub returns-in-Layout-clause-ok : goal.returns-in-Layout-clause-ok
returns-in-Layout-clause-ok c = found_at _ _ _ _ _ c.in_ok-ahead.ensures.ok c.in-Layout.is rule.layout

pub returns-in_default : goal.returns-in_default
returns-in_default c = record { ok = tt; err = record { misses = at_token _ c.in_ok-ahead.ensures.ok (search rules); is_fault = refl } }
