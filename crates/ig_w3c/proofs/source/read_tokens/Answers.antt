use Rattle.std.proofs.Common.{sym, subst, ap, ◌∙◌}
use Rattle.std.proofs.lemmas.Bool.Decides.{not_from_Decides}
use Rattle.ig_notation_syntax.specs.Rules.{FollowsRules}
use Rattle.ig_notation_terms.specs.Limits.{IsShallow}
use Rattle.ig_notation_syntax.specs.Machine as own_machine
use Rattle.ig_notation.specs.Parts.{FailsAt}
use Rattle.ig_w3c_syntax.specs.View.{meanings}
use Rattle.ig_w3c.specs.Outcome.{IsReadFault, no_memory}
use Rattle.ig_w3c.proofs.Outcomes.{lent, nesting_fault, rule_fault, is_read, memory_only, out_of_memory}
use Rattle.ig_w3c.proofs.source.read_tokens.Goals as goal

pub returns-in_err-own-clause-fault : goal.returns-in_err-own-clause-fault
returns-in_err-own-clause-fault c = out_of_memory c.args.source.now c.from_residual.result c.from_residual.ensures.1

pub returns-then-not-is_shallow-clause-fault : goal.returns-then-not-is_shallow-clause-fault
returns-then-not-is_shallow-clause-fault c =
    nesting_fault c.args.source.now c.args.tokens.now c.requires
    (subst (λ z. IsShallow z → ⊥) (lent c.as_slice.result.now _ _ c.as_slice.ensures.value c.in_ok-own.ensures.ok)
    (not_from_Decides _ c.is_shallow.ensures c.if-not-is_shallow.true))

pub returns-in-Some-clause-fault : goal.returns-in-Some-clause-fault
returns-in-Some-clause-fault c =
    rule_fault c.args.source.now c.args.tokens.now c.in-Some.number _ c.requires
    (subst IsShallow (lent c.as_slice.result.now _ _ c.as_slice.ensures.value c.in_ok-own.ensures.ok)
    (c.is_shallow.ensures.0 c.if-not-is_shallow.false))
    c.run_stops.ensures (sym c.in-Some.ensures) c.byte_of.ensures

pub returns-in-Ok-clause-ok : goal.returns-in-Ok-clause-ok
returns-in-Ok-clause-ok c =
    is_read c.args.source.now c.args.tokens.now c.in-Ok.grammar c.requires
    (subst IsShallow (lent c.as_slice.result.now _ _ c.as_slice.ensures.value c.in_ok-own.ensures.ok)
    (c.is_shallow.ensures.0 c.if-not-is_shallow.false))
    c.run_keeps.ensures (sym c.in_default.ensures)
    (subst (λ z. FollowsRules z c.in-Ok.grammar)
    (c.new.ensures ∙ lent c.as_slice-2.result.now _ _ c.as_slice-2.ensures.value c.in_ok-own.ensures.ok) c.in-Ok.ensures.ok)

pub without_memory-requires : goal.without_memory-requires
without_memory-requires c =
    memory_only (meanings c.args.tokens.now) c.in-Err.fault c.kept_rules_read.ensures c.read_runs.ensures c.run_keeps.ensures (sym c.in_default.ensures)
    (subst (λ z. FailsAt own_machine.grammar z 0 c.in-Err.fault)
    (c.new.ensures ∙ lent c.as_slice-2.result.now _ _ c.as_slice-2.ensures.value c.in_ok-own.ensures.ok) c.in-Err.ensures.err)

pub returns-clause-fault : goal.returns-clause-fault
returns-clause-fault c = subst (IsReadFault c.args.source.now) (sym c.without_memory.ensures) no_memory
