use Rattle.std.proofs.Common.{◌≡◌, refl, subst, sym, None, Some}
use Rattle.ig_text.proofs.Emptiness.{is_something, is_nothing}
use Rattle.ig_grammar.specs.Condition.{declaration_of, StartMeets}
use Rattle.ig_grammar.specs.Tabs.{says_bad_width}
use Rattle.ig_scope.specs.Causes.{Tells}
use Rattle.ig_scope.proofs.StartCauses.{start_missing, start_unknown, start_parametrized, tabs_told}
use Rattle.ig_scope.proofs.starts.start_cause.Goals as goal

pub returns-in-None : goal.returns-in-None
returns-in-None c = start_missing c.args.grammar.now c.in-None.is

pub returns-in-None-find : goal.returns-in-None-find
returns-in-None-find c =
    start_unknown c.args.grammar.now c.in-Some.name c.in-Some.is (subst (λ z. declaration_of z c.in-Some.name ≡ None) c.requires c.in-None-find.ensures)

pub returns-else-is_empty : goal.returns-else-is_empty
returns-else-is_empty c =
    start_parametrized c.args.grammar.now c.in-Some.name c.in-Some-find.decl.now c.in-Some.is
    (subst (λ z. declaration_of z c.in-Some.name ≡ Some c.in-Some-find.decl.now) c.requires c.in-Some-find.ensures)
    (is_something c.as_slice.result.now c.in-Some-find.decl.now.params c.is_empty.result c.is_empty.ensures c.if-is_empty.false c.as_slice.ensures)

pub returns-then-is_empty : goal.returns-then-is_empty
returns-then-is_empty c =
    subst (Tells (StartMeets c.args.grammar.now)) (sym c.tabs_cause.ensures)
    (tabs_told c.args.grammar.now c.in-Some.name c.in-Some-find.decl.now c.in-Some.is
    (subst (λ z. declaration_of z c.in-Some.name ≡ Some c.in-Some-find.decl.now) c.requires c.in-Some-find.ensures)
    (is_nothing c.as_slice.result.now c.in-Some-find.decl.now.params c.is_empty.result c.is_empty.ensures c.if-is_empty.true c.as_slice.ensures)
    (says_bad_width c.args.grammar.now.tabs) refl)
