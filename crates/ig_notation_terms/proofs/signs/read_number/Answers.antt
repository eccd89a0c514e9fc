use Rattle.std.proofs.Common.{refl, rules}
use Rattle.ig_notation_syntax.specs.Machine.{numeral}
use Rattle.ig_notation_terms.specs.Readers.{at_token}
use Rattle.ig_notation_terms.specs.Steps.{stands_as, ended, exits}
use Rattle.ig_notation_terms.proofs.ExpressionParts.{no_larger}
use Rattle.ig_notation_terms.proofs.signs.read_number.Goals as goal

pub returns-in_err-digits-clause-err : goal.returns-in_err-digits-clause-err
returns-in_err-digits-clause-err c = exits _ _ _ c.from_residual.ensures.1 (ended numeral _ _ _ c.in_err-digits.ensures.err)

pub unreachable-requires : goal.unreachable-requires
unreachable-requires c =
    no_larger _ _ _ c.numbers_fit.ensures (stands_as _ _ _ _ c.in_ok-digits.ensures.ok c.in-Number.is) c.in-None.ensures

pub returns-in-Some-clause-ok : goal.returns-in-Some-clause-ok
returns-in-Some-clause-ok c =
    record {
      spelled = _;
      stands = stands_as _ _ _ _ c.in_ok-digits.ensures.ok c.in-Number.is;
      is_number = search rules;
    }

pub returns-in_default : goal.returns-in_default
returns-in_default c = record { ok = tt; err = record { misses = at_token _ c.in_ok-digits.ensures.ok (search rules); is_fault = refl } }
