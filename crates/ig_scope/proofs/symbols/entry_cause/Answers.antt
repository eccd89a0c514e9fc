use Rattle.std.proofs.Common.{sym, subst}
use Rattle.ig_text.proofs.Booleans.{refuted}
use Rattle.ig_scope.specs.Symbols.{HasUnknown, HasUnkinded}
use Rattle.ig_scope.proofs.SymbolCauses.{entry_unknown, entry_unkinded, entry_free}
use Rattle.ig_scope.proofs.symbols.entry_cause.Goals as goal
use Rattle.ig_scope.proofs.Members.{bound_values}

pub returns-then-values_have_unknown : goal.returns-then-values_have_unknown
returns-then-values_have_unknown c =
    λ x decls within. entry_unknown decls within c.args.variables.now c.args.bindings.now x
    (subst (HasUnknown c.args.variables.now) (bound_values c.as_slice-bindings.result.now c.args.bindings.now c.as_slice-bindings.ensures) (c.values_have_unknown.ensures.0 c.if-values_have_unknown.true))

pub returns-then-values_have_unkinded : goal.returns-then-values_have_unkinded
returns-then-values_have_unkinded c =
    let e = bound_values c.as_slice-bindings.result.now c.args.bindings.now c.as_slice-bindings.ensures in
    λ x decls within. entry_unkinded decls within c.args.variables.now c.args.bindings.now x
    (λ h. refuted c.values_have_unknown.result c.values_have_unknown.ensures c.if-values_have_unknown.false (subst (HasUnknown c.args.variables.now) (sym e) h))
    (subst (HasUnkinded c.args.variables.now) e (c.values_have_unkinded.ensures.0 c.if-values_have_unkinded.true))

pub returns : goal.returns
returns c =
    let e = bound_values c.as_slice-bindings.result.now c.args.bindings.now c.as_slice-bindings.ensures in
    λ x decls within. entry_free decls within c.args.variables.now c.args.bindings.now x
    (λ h. refuted c.values_have_unknown.result c.values_have_unknown.ensures c.if-values_have_unknown.false (subst (HasUnknown c.args.variables.now) (sym e) h))
    (λ h. refuted c.values_have_unkinded.result c.values_have_unkinded.ensures c.if-values_have_unkinded.false (subst (HasUnkinded c.args.variables.now) (sym e) h))
