use Rattle.std.proofs.Common.{refl, ap, sym, subst, map, ◌∙◌}
use Rattle.std.specs.Prelude.{OnOk}
use Rattle.ig_text.proofs.Lists.{contains_from_at}
use Rattle.ig_expr.specs.View.{expression_of}
use Rattle.ig_item.specs.View.{step_of}
use Rattle.ig_item.specs.Step.{Term}
use Rattle.ig_item.specs.Items.{StandsBefore}
use Rattle.ig_run_tables.specs.Compiled.{form_of, expressions_of}
use Rattle.ig_run_moves.specs.Rules.{IsBehind, IsBehindTest, IsBehindBind}
use Rattle.ig_plain.specs.Found.{means, AddsTerminal}
use Rattle.ig_plain.specs.Trail.{RecordsTerminal, Unfound}
use Rattle.ig_plain.proofs.Completes.{run_at}
use Rattle.ig_plain.proofs.Fresh.{new_test, new_bind, new_terminal}
use Rattle.ig_plain.proofs.Onward.{trail_at, not_taken}
use Rattle.ig_plain.proofs.Alone.{takes_passing, takes_terminal, stands_at}
use Rattle.ig_plain.proofs.TakenOn.{passing_on, terminal_on}
use Rattle.ig_plain.proofs.run.take_step.Goals as goal

pub take_terminal-requires-clause-named : goal.take_terminal-requires-clause-named
take_terminal-requires-clause-named c = c.args.run.now.found.named.here c.args.taken.item
    (contains_from_at c.args.run.now.found.here.items c.requires.taking.number c.args.taken.item c.requires.taking.at)

pub take_test-requires-clause-named : goal.take_test-requires-clause-named
take_test-requires-clause-named c = c.args.run.now.found.named.here c.args.taken.item
    (contains_from_at c.args.run.now.found.here.items c.requires.taking.number c.args.taken.item c.requires.taking.at)

pub take_bind-requires-clause-named : goal.take_bind-requires-clause-named
take_bind-requires-clause-named c = c.args.run.now.found.named.here c.args.taken.item
    (contains_from_at c.args.run.now.found.here.items c.requires.taking.number c.args.taken.item c.requires.taking.at)

pub take_test-requires-clause-compiled : goal.take_test-requires-clause-compiled
take_test-requires-clause-compiled c =
    c.known_before-known.ensures.forms ∙ ap (λ z. map (form_of c.known_before-known.result.names.now) (expressions_of (step_of z))) c.in-Test.is

pub take_test-requires-clause-new : goal.take_test-requires-clause-new
take_test-requires-clause-new c =
    new_test c.args.context.now.core.now c.args.context.now.text.now c.args.run.now.found c.args.run.now.trail _ c.requires.next.trail.ways (means c.args.run.now.found c.args.taken.item)
    (not_taken c.args.context.now.core.now c.args.context.now.text.now c.args.taken.item.position c.requires.next.place c.args.run.now.found c.args.run.now.waiting c.args.run.now.trail
    c.args.taken.item c.args.taken.number
    c.requires.taking.run.taking.stored c.requires.next.at c.requires.next.numbered c.requires.next.trail) c.before_tests.ensures
    c.known_before-known.result.names.now (expression_of c.in-Test.condition)
    (subst (StandsBefore c.args.context.now.core.now (means c.args.run.now.found c.args.taken.item) c.known_before-known.result.names.now) (ap step_of c.in-Test.is)
    (c.known_before-known.ensures.stands c.args.run.now.found.envs.keys c.args.run.now.found.keys (sym c.requires.nonterminal)))

pub returns-in-Test-clause-takes : goal.returns-in-Test-clause-takes
returns-in-Test-clause-takes c =
    λ k e.
    takes_passing c.args.context.now.core.now c.args.context.now.text.now c.reachable_is_closed.ensures c.args.context.now.budget c.args.taken.item.position k c.args.run.now.found c.args.run.now.waiting
    c.args.taken.item refl (run_at c.args.context.now.core.now c.args.context.now.text.now c.args.context.now.budget c.args.taken.item c.args.run.now.found c.args.run.now.waiting c.requires.taking k e) e
    (IsBehindTest c.args.context.now.text.now c.known_before-known.result.names.now (expression_of c.in-Test.condition) (means c.args.run.now.found c.args.taken.item))
    (c.before_tests.ensures c.args.context.now.core.now c.args.context.now.text.now (means c.args.run.now.found c.args.taken.item) c.known_before-known.result.names.now (expression_of c.in-Test.condition)
    (subst (StandsBefore c.args.context.now.core.now (means c.args.run.now.found c.args.taken.item) c.known_before-known.result.names.now) (ap step_of c.in-Test.is)
    (c.known_before-known.ensures.stands c.args.run.now.found.envs.keys c.args.run.now.found.keys (sym c.requires.nonterminal))))
    c.take_test.new.found c.take_test.result c.take_test.ensures.adds

pub returns-in-Test-clause-trail : goal.returns-in-Test-clause-trail
returns-in-Test-clause-trail c =
    λ k e.
    let h = trail_at c.args.context.now.core.now c.args.context.now.text.now c.args.taken.item.position c.args.taken.item c.args.taken.number c.args.run.now.found c.args.run.now.waiting c.args.run.now.trail
    c.requires.taking.run.taking.stored c.requires.next k e in
    passing_on c.args.context.now.core.now c.args.context.now.text.now c.reachable_is_closed.ensures c.args.context.now.budget c.args.taken.item.position k c.args.run.now.found c.args.run.now.waiting
    c.args.run.now.trail c.args.taken.item c.args.taken.number refl (run_at c.args.context.now.core.now c.args.context.now.text.now c.args.context.now.budget c.args.taken.item c.args.run.now.found c.args.run.now.waiting c.requires.taking k e) e h.1 h.0
    (IsBehindTest c.args.context.now.text.now c.known_before-known.result.names.now (expression_of c.in-Test.condition) (means c.args.run.now.found c.args.taken.item))
    (c.before_tests.ensures c.args.context.now.core.now c.args.context.now.text.now (means c.args.run.now.found c.args.taken.item) c.known_before-known.result.names.now (expression_of c.in-Test.condition)
    (subst (StandsBefore c.args.context.now.core.now (means c.args.run.now.found c.args.taken.item) c.known_before-known.result.names.now) (ap step_of c.in-Test.is)
    (c.known_before-known.ensures.stands c.args.run.now.found.envs.keys c.args.run.now.found.keys (sym c.requires.nonterminal))))
    c.take_test.new.found c.take_test.new.trail c.take_test.result c.take_test.ensures.adds c.take_test.ensures.ways

pub take_bind-requires-clause-compiled : goal.take_bind-requires-clause-compiled
take_bind-requires-clause-compiled c =
    c.known_before-known-in-Bind.ensures.forms ∙ ap (λ z. map (form_of c.known_before-known-in-Bind.result.names.now) (expressions_of (step_of z))) c.in-Bind.is

pub take_bind-requires-clause-new : goal.take_bind-requires-clause-new
take_bind-requires-clause-new c =
    new_bind c.args.context.now.core.now c.args.context.now.text.now c.args.run.now.found c.args.run.now.trail _ c.requires.next.trail.ways (means c.args.run.now.found c.args.taken.item)
    (not_taken c.args.context.now.core.now c.args.context.now.text.now c.args.taken.item.position c.requires.next.place c.args.run.now.found c.args.run.now.waiting c.args.run.now.trail
    c.args.taken.item c.args.taken.number
    c.requires.taking.run.taking.stored c.requires.next.at c.requires.next.numbered c.requires.next.trail) c.before_binds.ensures
    c.known_before-known-in-Bind.result.names.now c.in-Bind.field-0 (expression_of c.in-Bind.expression)
    (subst (StandsBefore c.args.context.now.core.now (means c.args.run.now.found c.args.taken.item) c.known_before-known-in-Bind.result.names.now) (ap step_of c.in-Bind.is)
    (c.known_before-known-in-Bind.ensures.stands c.args.run.now.found.envs.keys c.args.run.now.found.keys (sym c.requires.nonterminal)))

pub returns-in-Bind-clause-takes : goal.returns-in-Bind-clause-takes
returns-in-Bind-clause-takes c =
    λ k e.
    takes_passing c.args.context.now.core.now c.args.context.now.text.now c.reachable_is_closed.ensures c.args.context.now.budget c.args.taken.item.position k c.args.run.now.found c.args.run.now.waiting
    c.args.taken.item refl (run_at c.args.context.now.core.now c.args.context.now.text.now c.args.context.now.budget c.args.taken.item c.args.run.now.found c.args.run.now.waiting c.requires.taking k e) e
    (IsBehindBind c.args.context.now.text.now c.known_before-known-in-Bind.result.names.now (expression_of c.in-Bind.expression) (means c.args.run.now.found c.args.taken.item))
    (c.before_binds.ensures c.args.context.now.core.now c.args.context.now.text.now (means c.args.run.now.found c.args.taken.item) c.known_before-known-in-Bind.result.names.now c.in-Bind.field-0 (expression_of c.in-Bind.expression)
    (subst (StandsBefore c.args.context.now.core.now (means c.args.run.now.found c.args.taken.item) c.known_before-known-in-Bind.result.names.now) (ap step_of c.in-Bind.is)
    (c.known_before-known-in-Bind.ensures.stands c.args.run.now.found.envs.keys c.args.run.now.found.keys (sym c.requires.nonterminal))))
    c.take_bind.new.found c.take_bind.result c.take_bind.ensures.adds

pub returns-in-Bind-clause-trail : goal.returns-in-Bind-clause-trail
returns-in-Bind-clause-trail c =
    λ k e.
    let h = trail_at c.args.context.now.core.now c.args.context.now.text.now c.args.taken.item.position c.args.taken.item c.args.taken.number c.args.run.now.found c.args.run.now.waiting c.args.run.now.trail
    c.requires.taking.run.taking.stored c.requires.next k e in
    passing_on c.args.context.now.core.now c.args.context.now.text.now c.reachable_is_closed.ensures c.args.context.now.budget c.args.taken.item.position k c.args.run.now.found c.args.run.now.waiting
    c.args.run.now.trail c.args.taken.item c.args.taken.number refl (run_at c.args.context.now.core.now c.args.context.now.text.now c.args.context.now.budget c.args.taken.item c.args.run.now.found c.args.run.now.waiting c.requires.taking k e) e h.1 h.0
    (IsBehindBind c.args.context.now.text.now c.known_before-known-in-Bind.result.names.now (expression_of c.in-Bind.expression) (means c.args.run.now.found c.args.taken.item))
    (c.before_binds.ensures c.args.context.now.core.now c.args.context.now.text.now (means c.args.run.now.found c.args.taken.item) c.known_before-known-in-Bind.result.names.now c.in-Bind.field-0 (expression_of c.in-Bind.expression)
    (subst (StandsBefore c.args.context.now.core.now (means c.args.run.now.found c.args.taken.item) c.known_before-known-in-Bind.result.names.now) (ap step_of c.in-Bind.is)
    (c.known_before-known-in-Bind.ensures.stands c.args.run.now.found.envs.keys c.args.run.now.found.keys (sym c.requires.nonterminal))))
    c.take_bind.new.found c.take_bind.new.trail c.take_bind.result c.take_bind.ensures.adds c.take_bind.ensures.ways

pub take_terminal-requires-clause-new : goal.take_terminal-requires-clause-new
take_terminal-requires-clause-new c =
    let s =
    stands_at c.args.context.now.core.now (means c.args.run.now.found c.args.taken.item) c.args.nonterminal (step_of c.args.step.now) (Term c.in-Term.what c.in-Term.label c.in-Term.not)
    c.steps_are_behind.ensures c.requires.nonterminal c.requires.there (ap step_of c.in-Term.is) in
    subst (λ z. Unfound c.args.run.now.found (IsBehind c.args.context.now.text.now c.in-Term.what c.in-Term.label z (means c.args.run.now.found c.args.taken.item)))
    (sym c.as_slice-not.ensures)
    (new_terminal c.args.context.now.core.now c.args.context.now.text.now c.args.run.now.found c.args.run.now.trail _ c.requires.next.trail.ways (means c.args.run.now.found c.args.taken.item)
    (not_taken c.args.context.now.core.now c.args.context.now.text.now c.args.taken.item.position c.requires.next.place c.args.run.now.found c.args.run.now.waiting c.args.run.now.trail
    c.args.taken.item c.args.taken.number
    c.requires.taking.run.taking.stored c.requires.next.at c.requires.next.numbered c.requires.next.trail) c.before_terminals.ensures
    s.names c.in-Term.what c.in-Term.label c.in-Term.not s.before)

pub returns-in-Term-clause-takes : goal.returns-in-Term-clause-takes
returns-in-Term-clause-takes c =
    λ k e.
    let s =
    stands_at c.args.context.now.core.now (means c.args.run.now.found c.args.taken.item) c.args.nonterminal (step_of c.args.step.now) (Term c.in-Term.what c.in-Term.label c.in-Term.not)
    c.steps_are_behind.ensures c.requires.nonterminal c.requires.there (ap step_of c.in-Term.is) in
    takes_terminal c.args.context.now.core.now c.args.context.now.text.now c.reachable_is_closed.ensures c.args.context.now.budget c.args.taken.item.position k c.args.run.now.found
    c.args.run.now.waiting c.args.taken.item refl (run_at c.args.context.now.core.now c.args.context.now.text.now c.args.context.now.budget c.args.taken.item c.args.run.now.found c.args.run.now.waiting c.requires.taking k e) e
    c.in-Term.what c.in-Term.label c.in-Term.not
    (c.before_terminals.ensures c.args.context.now.core.now c.args.context.now.text.now (means c.args.run.now.found c.args.taken.item) s.names c.in-Term.what c.in-Term.label c.in-Term.not s.before)
    c.take_terminal.new.found c.take_terminal.result
    (subst (λ z. AddsTerminal c.args.context.now.text.now c.in-Term.what c.in-Term.label z c.args.context.now.budget c.args.taken.item.position
    (means c.args.run.now.found c.args.taken.item) c.args.run.now.found c.take_terminal.new.found c.take_terminal.result)
    c.as_slice-not.ensures c.take_terminal.ensures.adds)

pub returns-in-Term-clause-trail : goal.returns-in-Term-clause-trail
returns-in-Term-clause-trail c =
    λ k e.
    let s =
    stands_at c.args.context.now.core.now (means c.args.run.now.found c.args.taken.item) c.args.nonterminal (step_of c.args.step.now) (Term c.in-Term.what c.in-Term.label c.in-Term.not)
    c.steps_are_behind.ensures c.requires.nonterminal c.requires.there (ap step_of c.in-Term.is) in
    let h = trail_at c.args.context.now.core.now c.args.context.now.text.now c.args.taken.item.position c.args.taken.item c.args.taken.number c.args.run.now.found c.args.run.now.waiting c.args.run.now.trail
    c.requires.taking.run.taking.stored c.requires.next k e in
    terminal_on c.args.context.now.core.now c.args.context.now.text.now c.reachable_is_closed.ensures c.args.context.now.budget c.args.taken.item.position k c.args.run.now.found
    c.args.run.now.waiting c.args.run.now.trail c.args.taken.item c.args.taken.number refl
    (run_at c.args.context.now.core.now c.args.context.now.text.now c.args.context.now.budget c.args.taken.item c.args.run.now.found c.args.run.now.waiting c.requires.taking k e) e h.1 h.0
    c.in-Term.what c.in-Term.label c.in-Term.not
    (c.before_terminals.ensures c.args.context.now.core.now c.args.context.now.text.now (means c.args.run.now.found c.args.taken.item) s.names c.in-Term.what c.in-Term.label c.in-Term.not s.before)
    c.take_terminal.new.found c.take_terminal.new.trail c.take_terminal.result
    (subst (λ z. AddsTerminal c.args.context.now.text.now c.in-Term.what c.in-Term.label z c.args.context.now.budget c.args.taken.item.position
    (means c.args.run.now.found c.args.taken.item) c.args.run.now.found c.take_terminal.new.found c.take_terminal.result)
    c.as_slice-not.ensures c.take_terminal.ensures.adds)
    (subst (λ z. OnOk c.take_terminal.result (RecordsTerminal c.args.context.now.text.now c.in-Term.what c.in-Term.label z c.args.taken.number
    (means c.args.run.now.found c.args.taken.item) c.args.run.now.found c.take_terminal.new.found c.args.run.now.trail c.take_terminal.new.trail))
    c.as_slice-not.ensures c.take_terminal.ensures.ways)

pub take_call-requires-clause-compiled : goal.take_call-requires-clause-compiled
take_call-requires-clause-compiled c =
    c.known_before-known-in-Call.ensures.forms ∙ ap (λ z. map (form_of c.known_before-known-in-Call.result.names.now) (expressions_of (step_of z))) c.in-Call.is ∙
    ap (map (form_of c.known_before-known-in-Call.result.names.now)) (sym c.as_slice-args.ensures)
