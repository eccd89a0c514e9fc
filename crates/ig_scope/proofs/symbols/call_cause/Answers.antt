use Rattle.std.proofs.Common.{sym, ap, ◌∙◌, subst, length}
use Rattle.ig_text.proofs.Booleans.{refuted}
use Rattle.ig_expr.specs.View.{expression_of}
use Rattle.ig_scope.specs.Symbols.{HasUnknown}
use Rattle.ig_scope.proofs.SymbolCauses.{call_undeclared, call_arity, call_unknown, call_mismatched, call_syntax, call_free, mismatch_same}
use Rattle.ig_scope.proofs.symbols.call_cause.Goals as goal
use Rattle.ig_scope.proofs.Members.{mapped_length}

pub returns-in_default : goal.returns-in_default
returns-in_default c = call_undeclared c.args.declarations.now c.args.within c.args.variables.now c.args.name.now c.args.arguments.now c.in_default.ensures

pub returns-then-not-are_as_many : goal.returns-then-not-are_as_many
returns-then-not-are_as_many c =
    call_arity c.args.declarations.now c.args.within c.args.variables.now c.args.name.now c.args.arguments.now c.in-Some.callee.now c.in-Some.ensures
    (λ e. refuted c.are_as_many.result c.are_as_many.ensures c.if-not-are_as_many.true (sym (mapped_length expression_of c.as_slice-arguments.result.now c.args.arguments.now c.as_slice-arguments.ensures) ∙ e ∙ sym (ap length c.as_slice-params.ensures)))

pub returns-then-have_unknown : goal.returns-then-have_unknown
returns-then-have_unknown c =
    call_unknown c.args.declarations.now c.args.within c.args.variables.now c.args.name.now c.args.arguments.now c.in-Some.callee.now c.in-Some.ensures (mapped_length expression_of c.as_slice-arguments.result.now c.args.arguments.now c.as_slice-arguments.ensures ∙ c.are_as_many.ensures.0 c.if-not-are_as_many.false ∙ ap length c.as_slice-params.ensures)
    (subst (HasUnknown c.args.variables.now) c.as_slice-arguments.ensures (c.have_unknown.ensures.0 c.if-have_unknown.true))

pub returns-then-are_mismatched : goal.returns-then-are_mismatched
returns-then-are_mismatched c =
    call_mismatched c.args.declarations.now c.args.within c.args.variables.now c.args.name.now c.args.arguments.now c.in-Some.callee.now c.in-Some.ensures (mapped_length expression_of c.as_slice-arguments.result.now c.args.arguments.now c.as_slice-arguments.ensures ∙ c.are_as_many.ensures.0 c.if-not-are_as_many.false ∙ ap length c.as_slice-params.ensures)
    (λ h. refuted c.have_unknown.result c.have_unknown.ensures c.if-have_unknown.false (subst (HasUnknown c.args.variables.now) (sym c.as_slice-arguments.ensures) h))
    (mismatch_same c.args.variables.now c.as_slice-arguments.ensures c.as_slice-params.ensures (c.are_mismatched.ensures.0 c.if-are_mismatched.true))

pub returns-then-is_syntax_in_lexical : goal.returns-then-is_syntax_in_lexical
returns-then-is_syntax_in_lexical c =
    call_syntax c.args.declarations.now c.args.within c.args.variables.now c.args.name.now c.args.arguments.now c.in-Some.callee.now c.in-Some.ensures (mapped_length expression_of c.as_slice-arguments.result.now c.args.arguments.now c.as_slice-arguments.ensures ∙ c.are_as_many.ensures.0 c.if-not-are_as_many.false ∙ ap length c.as_slice-params.ensures)
    (λ h. refuted c.have_unknown.result c.have_unknown.ensures c.if-have_unknown.false (subst (HasUnknown c.args.variables.now) (sym c.as_slice-arguments.ensures) h))
    (λ h. refuted c.are_mismatched.result c.are_mismatched.ensures c.if-are_mismatched.false (mismatch_same c.args.variables.now (sym c.as_slice-arguments.ensures) (sym c.as_slice-params.ensures) h)) (c.is_syntax_in_lexical.ensures.0 c.if-is_syntax_in_lexical.true).0 (c.is_syntax_in_lexical.ensures.0 c.if-is_syntax_in_lexical.true).1

pub returns : goal.returns
returns c =
    call_free c.args.declarations.now c.args.within c.args.variables.now c.args.name.now c.args.arguments.now c.in-Some.callee.now c.in-Some.ensures (mapped_length expression_of c.as_slice-arguments.result.now c.args.arguments.now c.as_slice-arguments.ensures ∙ c.are_as_many.ensures.0 c.if-not-are_as_many.false ∙ ap length c.as_slice-params.ensures)
    (λ h. refuted c.have_unknown.result c.have_unknown.ensures c.if-have_unknown.false (subst (HasUnknown c.args.variables.now) (sym c.as_slice-arguments.ensures) h))
    (λ h. refuted c.are_mismatched.result c.are_mismatched.ensures c.if-are_mismatched.false (mismatch_same c.args.variables.now (sym c.as_slice-arguments.ensures) (sym c.as_slice-params.ensures) h)) (λ i k. refuted c.is_syntax_in_lexical.result c.is_syntax_in_lexical.ensures c.if-is_syntax_in_lexical.false (i, k))
