use Rattle.std.proofs.Common.{refl}
use Rattle.std.proofs.lemmas.List.{take_all}
use Rattle.std.proofs.lemmas.List.Elements.{All-nil}
use Rattle.ig_text.proofs.Booleans.{refuted}
use Rattle.ig_expr.specs.View.{expression_of}
use Rattle.ig_grammar.specs.Condition.{NamesUnknown}
use Rattle.ig_scope.proofs.symbols.values_have_unknown.Goals as goal
use Rattle.ig_scope.proofs.Members.{found_none, member_found, all_more}

pub returns : goal.returns
returns c =
    found_none (λ b. expression_of b.1) (NamesUnknown c.args.variables.now) c.args.bindings.now _ (take_all c.loop-binding.binding-index c.args.bindings.now c.loop-binding-test.false) c.loop-binding.invariant

pub loop-binding-preserved : goal.loop-binding-preserved
loop-binding-preserved c =
    all_more (λ e. NamesUnknown c.args.variables.now (expression_of e.1) → ⊥) c.args.bindings.now c.loop-binding.binding-index c.binding-item.result c.loop-binding-test.true
    c.binding-item.is c.loop-binding.invariant (refuted c.names_unknown.result c.names_unknown.ensures c.if-names_unknown.false)

pub returns-then-names_unknown : goal.returns-then-names_unknown
returns-then-names_unknown c =
    let found =
    member_found (λ b. expression_of b.1) c.args.bindings.now c.loop-binding.binding-index c.binding-item.result c.loop-binding-test.true
    c.binding-item.is in
    ((λ _. (expression_of c.binding-item.result.1, found, c.names_unknown.ensures.0 c.if-names_unknown.true)), (λ _. refl))

pub loop-binding-init : goal.loop-binding-init
loop-binding-init c = All-nil (λ e. NamesUnknown c.args.variables.now (expression_of e.1) → ⊥)
