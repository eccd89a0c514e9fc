use Rattle.std.proofs.Common.{sym, subst}
use Rattle.ig_notation.specs.Outcome.{IsReadFault}
use Rattle.ig_notation.proofs.Outcomes.{has_tokens, token_fault, limit_fault, rule_fault, is_read, exits_with}
use Rattle.ig_notation.proofs.source.read_short.Goals as goal

pub returns-in_err-found-clause-fault : goal.returns-in_err-found-clause-fault
returns-in_err-found-clause-fault c =
    exits_with _ _ _ c.from_residual.ensures.1 (token_fault _ _ c.requires c.in_err-found.ensures.fault)

pub returns-in-Some-clause-fault : goal.returns-in-Some-clause-fault
returns-in-Some-clause-fault c =
    let h = has_tokens _ _ _ c.requires c.in_ok-found.ensures.tokens c.as_slice-tokens.ensures.value in
    limit_fault _ _ _ h c.in-Some.ensures

pub returns-in-Ok-clause-ok : goal.returns-in-Ok-clause-ok
returns-in-Ok-clause-ok c =
    let h = has_tokens _ _ _ c.requires c.in_ok-found.ensures.tokens c.as_slice-tokens.ensures.value in
    is_read _ _ _ h c.in_default.ensures (rw c.new.ensures at c.in-Ok.ensures.ok)

pub returns-clause-fault : goal.returns-clause-fault
returns-clause-fault c =
    let h = has_tokens _ _ _ c.requires c.in_ok-found.ensures.tokens c.as_slice-tokens.ensures.value in
    subst (IsReadFault c.args.source.now) (sym c.refusal.ensures)
    (rule_fault _ _ _ h c.in_default.ensures
    c.run_stops.ensures (rw c.new.ensures at c.in-Err.ensures.err))
