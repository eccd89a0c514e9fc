use Rattle.std.proofs.Common.{refl}
use Rattle.std.proofs.lemmas.List.{take_all}
use Rattle.std.proofs.lemmas.List.Elements.{All-nil}
use Rattle.ig_text.proofs.Booleans.{refuted}
use Rattle.ig_expr.specs.View.{expression_of}
use Rattle.ig_grammar.specs.Condition.{NamesUnknown}
use Rattle.ig_scope.proofs.symbols.have_unknown.Goals as goal
use Rattle.ig_scope.proofs.Members.{found_none, member_found, all_more}

pub returns : goal.returns
returns c =
    found_none expression_of (NamesUnknown c.args.variables.now) c.args.expressions.now _ (take_all c.loop-e.e-index c.args.expressions.now c.loop-e-test.false) c.loop-e.invariant

pub loop-e-preserved : goal.loop-e-preserved
loop-e-preserved c =
    all_more (λ e. NamesUnknown c.args.variables.now (expression_of e) → ⊥) c.args.expressions.now c.loop-e.e-index c.e-item.result c.loop-e-test.true
    c.e-item.is c.loop-e.invariant (refuted c.names_unknown.result c.names_unknown.ensures c.if-names_unknown.false)

pub returns-then-names_unknown : goal.returns-then-names_unknown
returns-then-names_unknown c =
    let found = member_found expression_of c.args.expressions.now c.loop-e.e-index c.e-item.result c.loop-e-test.true c.e-item.is in
    ((λ _. (expression_of c.e-item.result, found, c.names_unknown.ensures.0 c.if-names_unknown.true)), (λ _. refl))

pub loop-e-init : goal.loop-e-init
loop-e-init c = All-nil (λ e. NamesUnknown c.args.variables.now (expression_of e) → ⊥)
