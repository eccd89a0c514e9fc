use Rattle.std.proofs.Common.{inl, inr, refl, ap, sym, subst}
use Rattle.ig_expr.specs.View.{expression_of}
use Rattle.ig_gss.specs.Nodes.{keys_of}
use Rattle.ig_item.specs.Items.{StandsBefore}
use Rattle.ig_item.specs.Step.{Term}
use Rattle.ig_item.specs.View.{step_of}
use Rattle.ig_item.specs.declared.ways.Way.TheVariants.{Leaf, Pass}
use Rattle.ig_run_moves.specs.Rules.{IsBehind, IsBehindBind, IsBehindTest}
use Rattle.ig_run_moves.specs.Tables.{Moves}
use Rattle.ig_engine.specs.Reached.{means, reached}
use Rattle.ig_engine.proofs.Event.{event_exit, item_named, moves_event, stored_new, terminal_alike, terminal_never, terminal_running, test_alike, test_never, test_running, bind_alike, bind_never, bind_running}
use Rattle.ig_engine.proofs.Steps.{stands_there}
use Rattle.ig_engine.proofs.events.take_step.Goals as goal

pub behind_terminal-requires : goal.behind_terminal-requires
behind_terminal-requires g c = record { there = (item_named c.laws.ensures c.args.context.now.core.now c.args.context.now.text.now c.args.context.now.budget c.args.item c.args.number (reached c.args.state.now.envs.keys c.args.state.now.stacks c.args.state.now.found) c.requires.taking).env }

pub add_behind-requires : goal.add_behind-requires
add_behind-requires g c =
    let b = (stands_there c.laws.ensures.tables c.args.context.now.core.now (means (reached c.args.state.now.envs.keys c.args.state.now.stacks c.args.state.now.found) c.args.item) c.args.nonterminal (step_of c.args.step.now) (Term c.in-Term.what c.in-Term.label c.in-Term.not) c.requires.of c.requires.stands (ap step_of c.in-Term.is)) in
    stored_new c.laws.ensures c.args.context.now.core.now c.args.context.now.text.now c.args.context.now.budget c.args.item c.args.number (reached c.args.state.now.envs.keys c.args.state.now.stacks c.args.state.now.found) c.requires.taking (IsBehind c.args.context.now.text.now c.in-Term.what c.in-Term.label c.in-Term.not) (Leaf c.args.number) (inr refl) (terminal_alike c.laws.ensures c.args.context.now.core.now c.args.context.now.text.now c.args.context.now.budget c.args.item c.args.number (reached c.args.state.now.envs.keys c.args.state.now.stacks c.args.state.now.found) c.requires.taking b.names c.in-Term.what c.in-Term.label c.in-Term.not b.before) (terminal_never c.laws.ensures c.args.context.now.core.now c.args.context.now.text.now c.args.context.now.budget c.args.item c.args.number (reached c.args.state.now.envs.keys c.args.state.now.stacks c.args.state.now.found) c.requires.taking b.names c.in-Term.what c.in-Term.label c.in-Term.not b.before) (terminal_running c.laws.ensures c.args.context.now.core.now c.args.context.now.text.now c.args.context.now.budget c.args.item c.args.number (reached c.args.state.now.envs.keys c.args.state.now.stacks c.args.state.now.found) c.requires.taking b.names c.in-Term.what c.in-Term.label c.in-Term.not b.before) c.behind_terminal.new.envs.keys
    c.in_ok-behind-in-Term.ensures.extends c.in_ok-behind-in-Term.ensures.once _ (subst (λ z. Moves c.args.state.now.envs.keys c.behind_terminal.new.envs.keys c.args.item (IsBehind c.args.context.now.text.now c.in-Term.what c.in-Term.label z) c.in_ok-behind-in-Term.behind) c.as_slice-not.ensures c.in_ok-behind-in-Term.ensures.moves)

pub returns-in_err-behind-in-Term : goal.returns-in_err-behind-in-Term
returns-in_err-behind-in-Term g c = event_exit c.args.context.now.core.now c.args.context.now.text.now c.args.context.now.budget (reached c.args.state.now.envs.keys c.args.state.now.stacks c.args.state.now.found) _ c.from_residual.result c.from_residual.ensures.1

pub returns-in_ok-behind-in-Term : goal.returns-in_ok-behind-in-Term
returns-in_ok-behind-in-Term g c =
    let b = (stands_there c.laws.ensures.tables c.args.context.now.core.now (means (reached c.args.state.now.envs.keys c.args.state.now.stacks c.args.state.now.found) c.args.item) c.args.nonterminal (step_of c.args.step.now) (Term c.in-Term.what c.in-Term.label c.in-Term.not) c.requires.of c.requires.stands (ap step_of c.in-Term.is)) in
    moves_event c.laws.ensures c.args.context.now.core.now c.args.context.now.text.now c.args.context.now.budget c.args.item c.args.number (reached c.args.state.now.envs.keys c.args.state.now.stacks c.args.state.now.found) c.requires.taking (IsBehind c.args.context.now.text.now c.in-Term.what c.in-Term.label c.in-Term.not) (Leaf c.args.number) (inr refl) (terminal_alike c.laws.ensures c.args.context.now.core.now c.args.context.now.text.now c.args.context.now.budget c.args.item c.args.number (reached c.args.state.now.envs.keys c.args.state.now.stacks c.args.state.now.found) c.requires.taking b.names c.in-Term.what c.in-Term.label c.in-Term.not b.before) (terminal_never c.laws.ensures c.args.context.now.core.now c.args.context.now.text.now c.args.context.now.budget c.args.item c.args.number (reached c.args.state.now.envs.keys c.args.state.now.stacks c.args.state.now.found) c.requires.taking b.names c.in-Term.what c.in-Term.label c.in-Term.not b.before) (terminal_running c.laws.ensures c.args.context.now.core.now c.args.context.now.text.now c.args.context.now.budget c.args.item c.args.number (reached c.args.state.now.envs.keys c.args.state.now.stacks c.args.state.now.found) c.requires.taking b.names c.in-Term.what c.in-Term.label c.in-Term.not b.before) c.behind_terminal.new.envs.keys
    c.in_ok-behind-in-Term.ensures.extends c.in_ok-behind-in-Term.ensures.once _ (subst (λ z. Moves c.args.state.now.envs.keys c.behind_terminal.new.envs.keys c.args.item (IsBehind c.args.context.now.text.now c.in-Term.what c.in-Term.label z) c.in_ok-behind-in-Term.behind) c.as_slice-not.ensures c.in_ok-behind-in-Term.ensures.moves) c.add_behind.new.found c.add_behind.result c.add_behind.ensures.indexed c.add_behind.ensures.adds

pub behind_test-requires-clause-there : goal.behind_test-requires-clause-there
behind_test-requires-clause-there g c = (item_named c.laws.ensures c.args.context.now.core.now c.args.context.now.text.now c.args.context.now.budget c.args.item c.args.number (reached c.args.state.now.envs.keys c.args.state.now.stacks c.args.state.now.found) c.requires.taking).env

pub add_behind-requires-in-Test : goal.add_behind-requires-in-Test
add_behind-requires-in-Test g c =
    let b = (subst (StandsBefore c.args.context.now.core.now (means (reached c.args.state.now.envs.keys c.args.state.now.stacks c.args.state.now.found) c.args.item) c.known_before-known.result.names.now) (ap step_of c.in-Test.is) (c.known_before-known.ensures.stands c.args.state.now.envs.keys (keys_of c.args.state.now.stacks) (sym c.requires.of))) in
    stored_new c.laws.ensures c.args.context.now.core.now c.args.context.now.text.now c.args.context.now.budget c.args.item c.args.number (reached c.args.state.now.envs.keys c.args.state.now.stacks c.args.state.now.found) c.requires.taking (IsBehindTest c.args.context.now.text.now c.known_before-known.result.names.now (expression_of c.in-Test.condition)) (Pass c.args.number) (inl refl) (test_alike c.laws.ensures c.args.context.now.core.now c.args.context.now.text.now c.args.context.now.budget c.args.item c.args.number (reached c.args.state.now.envs.keys c.args.state.now.stacks c.args.state.now.found) c.requires.taking c.known_before-known.result.names.now (expression_of c.in-Test.condition) b) (test_never c.laws.ensures c.args.context.now.core.now c.args.context.now.text.now c.args.context.now.budget c.args.item c.args.number (reached c.args.state.now.envs.keys c.args.state.now.stacks c.args.state.now.found) c.requires.taking c.known_before-known.result.names.now (expression_of c.in-Test.condition) b) (test_running c.laws.ensures c.args.context.now.core.now c.args.context.now.text.now c.args.context.now.budget c.args.item c.args.number (reached c.args.state.now.envs.keys c.args.state.now.stacks c.args.state.now.found) c.requires.taking c.known_before-known.result.names.now (expression_of c.in-Test.condition) b) c.behind_test.new.envs.keys
    c.in_ok-behind-in-Test.ensures.extends c.in_ok-behind-in-Test.ensures.once _ c.in_ok-behind-in-Test.ensures.moves

pub returns-in_err-behind-in-Test : goal.returns-in_err-behind-in-Test
returns-in_err-behind-in-Test g c = event_exit c.args.context.now.core.now c.args.context.now.text.now c.args.context.now.budget (reached c.args.state.now.envs.keys c.args.state.now.stacks c.args.state.now.found) _ c.from_residual-in_err-behind-in-Test.result c.from_residual-in_err-behind-in-Test.ensures.1

pub returns-in_ok-behind-in-Test : goal.returns-in_ok-behind-in-Test
returns-in_ok-behind-in-Test g c =
    let b = (subst (StandsBefore c.args.context.now.core.now (means (reached c.args.state.now.envs.keys c.args.state.now.stacks c.args.state.now.found) c.args.item) c.known_before-known.result.names.now) (ap step_of c.in-Test.is) (c.known_before-known.ensures.stands c.args.state.now.envs.keys (keys_of c.args.state.now.stacks) (sym c.requires.of))) in
    moves_event c.laws.ensures c.args.context.now.core.now c.args.context.now.text.now c.args.context.now.budget c.args.item c.args.number (reached c.args.state.now.envs.keys c.args.state.now.stacks c.args.state.now.found) c.requires.taking (IsBehindTest c.args.context.now.text.now c.known_before-known.result.names.now (expression_of c.in-Test.condition)) (Pass c.args.number) (inl refl) (test_alike c.laws.ensures c.args.context.now.core.now c.args.context.now.text.now c.args.context.now.budget c.args.item c.args.number (reached c.args.state.now.envs.keys c.args.state.now.stacks c.args.state.now.found) c.requires.taking c.known_before-known.result.names.now (expression_of c.in-Test.condition) b) (test_never c.laws.ensures c.args.context.now.core.now c.args.context.now.text.now c.args.context.now.budget c.args.item c.args.number (reached c.args.state.now.envs.keys c.args.state.now.stacks c.args.state.now.found) c.requires.taking c.known_before-known.result.names.now (expression_of c.in-Test.condition) b) (test_running c.laws.ensures c.args.context.now.core.now c.args.context.now.text.now c.args.context.now.budget c.args.item c.args.number (reached c.args.state.now.envs.keys c.args.state.now.stacks c.args.state.now.found) c.requires.taking c.known_before-known.result.names.now (expression_of c.in-Test.condition) b) c.behind_test.new.envs.keys
    c.in_ok-behind-in-Test.ensures.extends c.in_ok-behind-in-Test.ensures.once _ c.in_ok-behind-in-Test.ensures.moves c.add_behind-in-Test.new.found c.add_behind-in-Test.result c.add_behind-in-Test.ensures.indexed c.add_behind-in-Test.ensures.adds

pub behind_bind-requires-clause-there : goal.behind_bind-requires-clause-there
behind_bind-requires-clause-there g c = (item_named c.laws.ensures c.args.context.now.core.now c.args.context.now.text.now c.args.context.now.budget c.args.item c.args.number (reached c.args.state.now.envs.keys c.args.state.now.stacks c.args.state.now.found) c.requires.taking).env

pub add_behind-requires-in-Bind : goal.add_behind-requires-in-Bind
add_behind-requires-in-Bind g c =
    let b = (subst (StandsBefore c.args.context.now.core.now (means (reached c.args.state.now.envs.keys c.args.state.now.stacks c.args.state.now.found) c.args.item) c.known_before-known-in-Bind.result.names.now) (ap step_of c.in-Bind.is) (c.known_before-known-in-Bind.ensures.stands c.args.state.now.envs.keys (keys_of c.args.state.now.stacks) (sym c.requires.of))) in
    stored_new c.laws.ensures c.args.context.now.core.now c.args.context.now.text.now c.args.context.now.budget c.args.item c.args.number (reached c.args.state.now.envs.keys c.args.state.now.stacks c.args.state.now.found) c.requires.taking (IsBehindBind c.args.context.now.text.now c.known_before-known-in-Bind.result.names.now (expression_of c.in-Bind.expression)) (Pass c.args.number) (inl refl) (bind_alike c.laws.ensures c.args.context.now.core.now c.args.context.now.text.now c.args.context.now.budget c.args.item c.args.number (reached c.args.state.now.envs.keys c.args.state.now.stacks c.args.state.now.found) c.requires.taking c.known_before-known-in-Bind.result.names.now c.in-Bind.field-0 (expression_of c.in-Bind.expression) b) (bind_never c.laws.ensures c.args.context.now.core.now c.args.context.now.text.now c.args.context.now.budget c.args.item c.args.number (reached c.args.state.now.envs.keys c.args.state.now.stacks c.args.state.now.found) c.requires.taking c.known_before-known-in-Bind.result.names.now c.in-Bind.field-0 (expression_of c.in-Bind.expression) b) (bind_running c.laws.ensures c.args.context.now.core.now c.args.context.now.text.now c.args.context.now.budget c.args.item c.args.number (reached c.args.state.now.envs.keys c.args.state.now.stacks c.args.state.now.found) c.requires.taking c.known_before-known-in-Bind.result.names.now c.in-Bind.field-0 (expression_of c.in-Bind.expression) b) c.behind_bind.new.envs.keys
    c.in_ok-behind-in-Bind.ensures.extends c.in_ok-behind-in-Bind.ensures.once _ c.in_ok-behind-in-Bind.ensures.moves

pub returns-in_err-behind-in-Bind : goal.returns-in_err-behind-in-Bind
returns-in_err-behind-in-Bind g c = event_exit c.args.context.now.core.now c.args.context.now.text.now c.args.context.now.budget (reached c.args.state.now.envs.keys c.args.state.now.stacks c.args.state.now.found) _ c.from_residual-in_err-behind-in-Bind.result c.from_residual-in_err-behind-in-Bind.ensures.1

pub returns-in_ok-behind-in-Bind : goal.returns-in_ok-behind-in-Bind
returns-in_ok-behind-in-Bind g c =
    let b = (subst (StandsBefore c.args.context.now.core.now (means (reached c.args.state.now.envs.keys c.args.state.now.stacks c.args.state.now.found) c.args.item) c.known_before-known-in-Bind.result.names.now) (ap step_of c.in-Bind.is) (c.known_before-known-in-Bind.ensures.stands c.args.state.now.envs.keys (keys_of c.args.state.now.stacks) (sym c.requires.of))) in
    moves_event c.laws.ensures c.args.context.now.core.now c.args.context.now.text.now c.args.context.now.budget c.args.item c.args.number (reached c.args.state.now.envs.keys c.args.state.now.stacks c.args.state.now.found) c.requires.taking (IsBehindBind c.args.context.now.text.now c.known_before-known-in-Bind.result.names.now (expression_of c.in-Bind.expression)) (Pass c.args.number) (inl refl) (bind_alike c.laws.ensures c.args.context.now.core.now c.args.context.now.text.now c.args.context.now.budget c.args.item c.args.number (reached c.args.state.now.envs.keys c.args.state.now.stacks c.args.state.now.found) c.requires.taking c.known_before-known-in-Bind.result.names.now c.in-Bind.field-0 (expression_of c.in-Bind.expression) b) (bind_never c.laws.ensures c.args.context.now.core.now c.args.context.now.text.now c.args.context.now.budget c.args.item c.args.number (reached c.args.state.now.envs.keys c.args.state.now.stacks c.args.state.now.found) c.requires.taking c.known_before-known-in-Bind.result.names.now c.in-Bind.field-0 (expression_of c.in-Bind.expression) b) (bind_running c.laws.ensures c.args.context.now.core.now c.args.context.now.text.now c.args.context.now.budget c.args.item c.args.number (reached c.args.state.now.envs.keys c.args.state.now.stacks c.args.state.now.found) c.requires.taking c.known_before-known-in-Bind.result.names.now c.in-Bind.field-0 (expression_of c.in-Bind.expression) b) c.behind_bind.new.envs.keys
    c.in_ok-behind-in-Bind.ensures.extends c.in_ok-behind-in-Bind.ensures.once _ c.in_ok-behind-in-Bind.ensures.moves c.add_behind-in-Bind.new.found c.add_behind-in-Bind.result c.add_behind-in-Bind.ensures.indexed c.add_behind-in-Bind.ensures.adds
