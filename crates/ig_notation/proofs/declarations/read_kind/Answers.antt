use Rattle.std.proofs.Common.{rules, refl}
use Rattle.ig_notation_syntax.specs.Rules as rule
use Rattle.ig_notation_terms.specs.Readers.{at_token}
use Rattle.ig_notation_terms.specs.Steps.{found_at}
use Rattle.ig_notation.proofs.declarations.read_kind.Goals as goal

pub returns-in-Int-clause-ok : goal.returns-in-Int-clause-ok
returns-in-Int-clause-ok c = found_at _ _ _ _ _ c.in_ok-ahead.ensures.ok c.in-Int.is rule.int

pub returns-in-Bool-clause-ok : goal.returns-in-Bool-clause-ok
returns-in-Bool-clause-ok c = found_at _ _ _ _ _ c.in_ok-ahead.ensures.ok c.in-Bool.is rule.bool

pub returns-in-Span-clause-ok : goal.returns-in-Span-clause-ok
returns-in-Span-clause-ok c = found_at _ _ _ _ _ c.in_ok-ahead.ensures.ok c.in-Span.is rule.span

pub returns-in_default : goal.returns-in_default
returns-in_default c = record { ok = tt; err = record { misses = at_token _ c.in_ok-ahead.ensures.ok (search rules); is_fault = refl } }
