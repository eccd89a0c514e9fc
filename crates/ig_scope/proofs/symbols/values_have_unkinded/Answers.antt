use Rattle.std.proofs.Common.{◌≡◌, None, refl}
use Rattle.std.proofs.lemmas.List.{take_all}
use Rattle.std.proofs.lemmas.List.Elements.{All-nil}
use Rattle.ig_expr.specs.View.{expression_of}
use Rattle.ig_grammar.specs.Visible.{kind_at}
use Rattle.ig_scope.proofs.Members.{found_none, member_found, all_more, is_absent, is_present}
use Rattle.ig_scope.proofs.symbols.values_have_unkinded.Goals as goal

pub returns : goal.returns
returns c =
    found_none (λ b. expression_of b.1) ((λ e. kind_at c.args.variables.now e ≡ None)) c.args.bindings.now _ (take_all c.loop-binding.binding-index c.args.bindings.now c.loop-binding-test.false) c.loop-binding.invariant

pub returns-then-is_none : goal.returns-then-is_none
returns-then-is_none c =
    let found =
    member_found (λ b. expression_of b.1) c.args.bindings.now c.loop-binding.binding-index c.binding-item.result c.loop-binding-test.true
    c.binding-item.is in
    let absent = is_absent c.kind_of.result _ c.is_none.result c.kind_of.ensures c.is_none.ensures c.if-is_none.true in
    ((λ _. (expression_of c.binding-item.result.1, found, absent)), (λ _. refl))

pub loop-binding-preserved : goal.loop-binding-preserved
loop-binding-preserved c =
    all_more (λ e. kind_at c.args.variables.now (expression_of e.1) ≡ None → ⊥) c.args.bindings.now c.loop-binding.binding-index c.binding-item.result
    c.loop-binding-test.true c.binding-item.is c.loop-binding.invariant
    (is_present c.kind_of.result _ c.is_none.result c.kind_of.ensures c.is_none.ensures c.if-is_none.false)

pub loop-binding-init : goal.loop-binding-init
loop-binding-init c = All-nil (λ e. kind_at c.args.variables.now (expression_of e.1) ≡ None → ⊥)
