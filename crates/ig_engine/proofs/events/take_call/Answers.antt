use Rattle.std.proofs.Common.{refl, map, ap}
use Rattle.ig_expr.specs.View.{expression_of}
use Rattle.ig_engine.specs.Reached.{reached}
use Rattle.ig_engine.proofs.Calls.{uncalled, made_tables, made_firsts, made_call_in, made_within, made_stopped, made_unmarked, found_tables, there_new, found_edge, found_indexed, found_within, found_call, found_stopped, found_unmarked}
use Rattle.ig_engine.proofs.Event.{event_exit, event_stops, item_named}
use Rattle.ig_engine.proofs.events.take_call.Goals as goal

pub is_first_call-requires : goal.is_first_call-requires
is_first_call-requires g c = (item_named c.laws.ensures c.args.context.now.core.now c.args.context.now.text.now c.args.context.now.budget c.args.item c.args.number (reached c.args.state.now.envs.keys c.args.state.now.stacks c.args.state.now.found) c.requires.taking).instance

pub callee_of-requires-clause-there : goal.callee_of-requires-clause-there
callee_of-requires-clause-there g c = (item_named c.laws.ensures c.args.context.now.core.now c.args.context.now.text.now c.args.context.now.budget c.args.item c.args.number (reached c.args.state.now.envs.keys c.args.state.now.stacks c.args.state.now.found) c.requires.taking).env

pub returns-in_err-callee : goal.returns-in_err-callee
returns-in_err-callee g c = event_exit c.args.context.now.core.now c.args.context.now.text.now c.args.context.now.budget (reached c.args.state.now.envs.keys c.args.state.now.stacks c.args.state.now.found) _ c.from_residual.result c.from_residual.ensures.1

pub returns-in_default : goal.returns-in_default
returns-in_default g c = uncalled c.laws.ensures c.args.context.now.core.now c.args.context.now.text.now c.args.context.now.budget c.args.item c.args.number (reached c.args.state.now.envs.keys c.args.state.now.stacks c.args.state.now.found) c.requires.taking
    c.keep_well_kinded.ensures.root c.args.known.now.names.now c.args.nonterminal (map expression_of c.args.args.now) c.args.qualifiers.now.label.now
    c.args.qualifiers.now.not.now c.requires.before c.callee_of.new.envs.keys c.in_ok-callee.ensures.extends c.in_ok-callee.ensures.once _ c.in_ok-callee.ensures.callee c.in_default.is

pub returns-in_err-node : goal.returns-in_err-node
returns-in_err-node g c = event_exit c.args.context.now.core.now c.args.context.now.text.now c.args.context.now.budget (reached c.args.state.now.envs.keys c.args.state.now.stacks c.args.state.now.found) _ c.from_residual-in_err-node.result c.from_residual-in_err-node.ensures.1

pub add_firsts-requires-clause-tables : goal.add_firsts-requires-clause-tables
add_firsts-requires-clause-tables g c = made_tables c.laws.ensures c.args.context.now.core.now c.args.context.now.text.now c.args.context.now.budget c.args.item c.args.number (reached c.args.state.now.envs.keys c.args.state.now.stacks c.args.state.now.found) c.requires.taking
    c.keep_well_kinded.ensures.root c.args.known.now.names.now c.args.nonterminal (map expression_of c.args.args.now) c.args.qualifiers.now.label.now
    c.args.qualifiers.now.not.now c.requires.before c.callee_of.new.envs.keys c.in_ok-callee.ensures.extends c.in_ok-callee.ensures.once _ c.in_ok-callee.ensures.callee c.in-Some.key c.in-Some.is c.node.new.self c.in_ok-node.node (c.in_ok-node.ensures.made c.if-is_new.true)

pub add_firsts-requires-clause-there : goal.add_firsts-requires-clause-there
add_firsts-requires-clause-there g c = c.in_ok-node.ensures.there

pub add_firsts-requires-clause-new : goal.add_firsts-requires-clause-new
add_firsts-requires-clause-new g c = made_firsts c.laws.ensures c.args.context.now.core.now c.args.context.now.text.now c.args.context.now.budget c.args.item c.args.number (reached c.args.state.now.envs.keys c.args.state.now.stacks c.args.state.now.found) c.requires.taking
    c.keep_well_kinded.ensures.root c.args.known.now.names.now c.args.nonterminal (map expression_of c.args.args.now) c.args.qualifiers.now.label.now
    c.args.qualifiers.now.not.now c.requires.before c.callee_of.new.envs.keys c.in_ok-callee.ensures.extends c.in_ok-callee.ensures.once _ c.in_ok-callee.ensures.callee c.in-Some.key c.in-Some.is c.node.new.self c.in_ok-node.node (c.in_ok-node.ensures.made c.if-is_new.true)

pub returns-in_err-add_firsts : goal.returns-in_err-add_firsts
returns-in_err-add_firsts g c =
    let f = c.in_err-add_firsts.field-0.0 in
    event_stops c.args.context.now.core.now c.args.context.now.text.now c.args.context.now.budget (reached c.args.state.now.envs.keys c.args.state.now.stacks c.args.state.now.found) _ c.from_residual-in_err-add_firsts.result f c.from_residual-in_err-add_firsts.ensures.1
    (made_stopped c.laws.ensures c.args.context.now.core.now c.args.context.now.text.now c.args.context.now.budget c.args.item c.args.number (reached c.args.state.now.envs.keys c.args.state.now.stacks c.args.state.now.found) c.requires.taking
    c.keep_well_kinded.ensures.root c.args.known.now.names.now c.args.nonterminal (map expression_of c.args.args.now) c.args.qualifiers.now.label.now
    c.args.qualifiers.now.not.now c.requires.before c.callee_of.new.envs.keys c.in_ok-callee.ensures.extends c.in_ok-callee.ensures.once _ c.in_ok-callee.ensures.callee c.in-Some.key c.in-Some.is c.node.new.self c.in_ok-node.node (c.in_ok-node.ensures.made c.if-is_new.true) _ f c.in_err-add_firsts.ensures.adds)

pub add_edge-requires-clause-is_new : goal.add_edge-requires-clause-is_new
add_edge-requires-clause-is_new g c = made_unmarked c.laws.ensures c.args.context.now.core.now c.args.context.now.text.now c.args.context.now.budget c.args.item c.args.number (reached c.args.state.now.envs.keys c.args.state.now.stacks c.args.state.now.found) c.requires.taking
    c.keep_well_kinded.ensures.root c.args.known.now.names.now c.args.nonterminal (map expression_of c.args.args.now) c.args.qualifiers.now.label.now
    c.args.qualifiers.now.not.now c.requires.before c.callee_of.new.envs.keys c.in_ok-callee.ensures.extends c.in_ok-callee.ensures.once _ c.in_ok-callee.ensures.callee c.in-Some.key c.in-Some.is c.node.new.self c.in_ok-node.node (c.in_ok-node.ensures.made c.if-is_new.true) c.add_firsts.new.state.stacks c.in_ok-add_firsts.ensures.stacks

pub meet_pops-requires-clause-node : goal.meet_pops-requires-clause-node
meet_pops-requires-clause-node g c = found_within c.laws.ensures c.args.context.now.core.now c.args.context.now.text.now c.args.context.now.budget c.args.item c.args.number (reached c.args.state.now.envs.keys c.args.state.now.stacks c.args.state.now.found) c.requires.taking
    c.keep_well_kinded.ensures.root c.args.known.now.names.now c.args.nonterminal (map expression_of c.args.args.now) c.args.qualifiers.now.label.now
    c.args.qualifiers.now.not.now c.requires.before c.callee_of.new.envs.keys c.in_ok-callee.ensures.extends c.in_ok-callee.ensures.once _ c.in_ok-callee.ensures.callee c.in-Some.key c.in-Some.is c.node.new.self c.in_ok-node.node (c.in_ok-node.ensures.found c.if-is_new.false)

pub meet_pops-requires-clause-tables : goal.meet_pops-requires-clause-tables
meet_pops-requires-clause-tables g c = found_tables c.laws.ensures c.args.context.now.core.now c.args.context.now.text.now c.args.context.now.budget c.args.item c.args.number (reached c.args.state.now.envs.keys c.args.state.now.stacks c.args.state.now.found) c.requires.taking
    c.keep_well_kinded.ensures.root c.args.known.now.names.now c.args.nonterminal (map expression_of c.args.args.now) c.args.qualifiers.now.label.now
    c.args.qualifiers.now.not.now c.requires.before c.callee_of.new.envs.keys c.in_ok-callee.ensures.extends c.in_ok-callee.ensures.once _ c.in_ok-callee.ensures.callee c.in-Some.key c.in-Some.is c.node.new.self c.in_ok-node.node (c.in_ok-node.ensures.found c.if-is_new.false)

pub meet_pops-requires-clause-edge : goal.meet_pops-requires-clause-edge
meet_pops-requires-clause-edge g c = found_edge c.laws.ensures c.args.context.now.core.now c.args.context.now.text.now c.args.context.now.budget c.args.item c.args.number (reached c.args.state.now.envs.keys c.args.state.now.stacks c.args.state.now.found) c.requires.taking
    c.keep_well_kinded.ensures.root c.args.known.now.names.now c.args.nonterminal (map expression_of c.args.args.now) c.args.qualifiers.now.label.now
    c.args.qualifiers.now.not.now c.requires.before c.callee_of.new.envs.keys c.in_ok-callee.ensures.extends c.in_ok-callee.ensures.once _ c.in_ok-callee.ensures.callee c.in-Some.key c.in-Some.is c.node.new.self c.in_ok-node.node (c.in_ok-node.ensures.found c.if-is_new.false) (record { item = c.args.number; is_bare = c.is_bare.result; is_first = c.is_first_call.result }) refl (λ h. c.is_bare.ensures.0 h) c.is_first_call.ensures

pub meet_pops-requires-clause-new : goal.meet_pops-requires-clause-new
meet_pops-requires-clause-new g c = there_new c.laws.ensures c.args.context.now.core.now c.args.context.now.text.now c.args.context.now.budget c.args.item c.args.number (reached c.args.state.now.envs.keys c.args.state.now.stacks c.args.state.now.found) c.requires.taking
    c.keep_well_kinded.ensures.root c.args.known.now.names.now c.args.nonterminal (map expression_of c.args.args.now) c.args.qualifiers.now.label.now
    c.args.qualifiers.now.not.now c.requires.before c.callee_of.new.envs.keys c.in_ok-callee.ensures.extends c.in_ok-callee.ensures.once _ c.in_ok-callee.ensures.callee c.in-Some.key c.in-Some.is c.node.new.self c.in_ok-node.node (c.in_ok-node.ensures.found c.if-is_new.false) (record { item = c.args.number; is_bare = c.is_bare.result; is_first = c.is_first_call.result }) c.is_first_call.ensures

pub meet_pops-requires-clause-indexed : goal.meet_pops-requires-clause-indexed
meet_pops-requires-clause-indexed g c = found_indexed c.laws.ensures c.args.context.now.core.now c.args.context.now.text.now c.args.context.now.budget c.args.item c.args.number (reached c.args.state.now.envs.keys c.args.state.now.stacks c.args.state.now.found) c.requires.taking
    c.keep_well_kinded.ensures.root c.args.known.now.names.now c.args.nonterminal (map expression_of c.args.args.now) c.args.qualifiers.now.label.now
    c.args.qualifiers.now.not.now c.requires.before c.callee_of.new.envs.keys c.in_ok-callee.ensures.extends c.in_ok-callee.ensures.once _ c.in_ok-callee.ensures.callee c.in-Some.key c.in-Some.is c.node.new.self c.in_ok-node.node (c.in_ok-node.ensures.found c.if-is_new.false)

pub returns-in_err-meet_pops : goal.returns-in_err-meet_pops
returns-in_err-meet_pops g c =
    let f = c.in_err-meet_pops.field-0.0 in
    event_stops c.args.context.now.core.now c.args.context.now.text.now c.args.context.now.budget (reached c.args.state.now.envs.keys c.args.state.now.stacks c.args.state.now.found) _ c.from_residual-in_err-meet_pops.result f c.from_residual-in_err-meet_pops.ensures.1
    (found_stopped c.laws.ensures c.args.context.now.core.now c.args.context.now.text.now c.args.context.now.budget c.args.item c.args.number (reached c.args.state.now.envs.keys c.args.state.now.stacks c.args.state.now.found) c.requires.taking
    c.keep_well_kinded.ensures.root c.args.known.now.names.now c.args.nonterminal (map expression_of c.args.args.now) c.args.qualifiers.now.label.now
    c.args.qualifiers.now.not.now c.requires.before c.callee_of.new.envs.keys c.in_ok-callee.ensures.extends c.in_ok-callee.ensures.once _ c.in_ok-callee.ensures.callee c.in-Some.key c.in-Some.is c.node.new.self c.in_ok-node.node (c.in_ok-node.ensures.found c.if-is_new.false) _ f c.in_err-meet_pops.ensures.adds)

pub add_edge-requires-clause-node : goal.add_edge-requires-clause-node
add_edge-requires-clause-node g c = made_within c.laws.ensures c.args.context.now.core.now c.args.context.now.text.now c.args.context.now.budget c.args.item c.args.number (reached c.args.state.now.envs.keys c.args.state.now.stacks c.args.state.now.found) c.requires.taking
    c.keep_well_kinded.ensures.root c.args.known.now.names.now c.args.nonterminal (map expression_of c.args.args.now) c.args.qualifiers.now.label.now
    c.args.qualifiers.now.not.now c.requires.before c.callee_of.new.envs.keys c.in_ok-callee.ensures.extends c.in_ok-callee.ensures.once _ c.in_ok-callee.ensures.callee c.in-Some.key c.in-Some.is c.node.new.self c.in_ok-node.node (c.in_ok-node.ensures.made c.if-is_new.true) c.add_firsts.new.state.stacks c.in_ok-add_firsts.ensures.stacks

pub returns-then-is_new : goal.returns-then-is_new
returns-then-is_new g c =
    made_call_in c.laws.ensures c.args.context.now.core.now c.args.context.now.text.now c.args.context.now.budget c.args.item c.args.number (reached c.args.state.now.envs.keys c.args.state.now.stacks c.args.state.now.found) c.requires.taking
    c.keep_well_kinded.ensures.root c.args.known.now.names.now c.args.nonterminal (map expression_of c.args.args.now) c.args.qualifiers.now.label.now
    c.args.qualifiers.now.not.now c.requires.before c.callee_of.new.envs.keys c.in_ok-callee.ensures.extends c.in_ok-callee.ensures.once _ c.in_ok-callee.ensures.callee c.in-Some.key c.in-Some.is c.node.new.self c.in_ok-node.node (c.in_ok-node.ensures.made c.if-is_new.true) (record { item = c.args.number; is_bare = c.is_bare.result; is_first = c.is_first_call.result }) refl (λ h. c.is_bare.ensures.0 h) c.is_first_call.ensures c.add_firsts.new.state.envs.keys c.add_firsts.new.state.stacks c.add_firsts.new.state.found
    (ap (λ z. z.keys) c.in_ok-add_firsts.ensures.envs) c.in_ok-add_firsts.ensures.stacks c.in_ok-add_firsts.ensures.adds c.in_ok-add_firsts.ensures.indexed c.add_edge.new.self
    c.in_ok-add_edge.ensures.ok

pub add_edge-requires-2-clause-node : goal.add_edge-requires-2-clause-node
add_edge-requires-2-clause-node g c = found_within c.laws.ensures c.args.context.now.core.now c.args.context.now.text.now c.args.context.now.budget c.args.item c.args.number (reached c.args.state.now.envs.keys c.args.state.now.stacks c.args.state.now.found) c.requires.taking
    c.keep_well_kinded.ensures.root c.args.known.now.names.now c.args.nonterminal (map expression_of c.args.args.now) c.args.qualifiers.now.label.now
    c.args.qualifiers.now.not.now c.requires.before c.callee_of.new.envs.keys c.in_ok-callee.ensures.extends c.in_ok-callee.ensures.once _ c.in_ok-callee.ensures.callee c.in-Some.key c.in-Some.is c.node.new.self c.in_ok-node.node (c.in_ok-node.ensures.found c.if-is_new.false)

pub add_edge-requires-2-clause-is_new : goal.add_edge-requires-2-clause-is_new
add_edge-requires-2-clause-is_new g c = found_unmarked c.laws.ensures c.args.context.now.core.now c.args.context.now.text.now c.args.context.now.budget c.args.item c.args.number (reached c.args.state.now.envs.keys c.args.state.now.stacks c.args.state.now.found) c.requires.taking
    c.keep_well_kinded.ensures.root c.args.known.now.names.now c.args.nonterminal (map expression_of c.args.args.now) c.args.qualifiers.now.label.now
    c.args.qualifiers.now.not.now c.requires.before c.callee_of.new.envs.keys c.in_ok-callee.ensures.extends c.in_ok-callee.ensures.once _ c.in_ok-callee.ensures.callee c.in-Some.key c.in-Some.is c.node.new.self c.in_ok-node.node (c.in_ok-node.ensures.found c.if-is_new.false) c.node.new.self refl

pub returns : goal.returns
returns g c =
    found_call c.laws.ensures c.args.context.now.core.now c.args.context.now.text.now c.args.context.now.budget c.args.item c.args.number (reached c.args.state.now.envs.keys c.args.state.now.stacks c.args.state.now.found) c.requires.taking
    c.keep_well_kinded.ensures.root c.args.known.now.names.now c.args.nonterminal (map expression_of c.args.args.now) c.args.qualifiers.now.label.now
    c.args.qualifiers.now.not.now c.requires.before c.callee_of.new.envs.keys c.in_ok-callee.ensures.extends c.in_ok-callee.ensures.once _ c.in_ok-callee.ensures.callee c.in-Some.key c.in-Some.is c.node.new.self c.in_ok-node.node (c.in_ok-node.ensures.found c.if-is_new.false) (record { item = c.args.number; is_bare = c.is_bare.result; is_first = c.is_first_call.result }) refl (λ h. c.is_bare.ensures.0 h) c.is_first_call.ensures (reached c.meet_pops.new.envs.keys c.node.new.self c.meet_pops.new.found) c.in_ok-meet_pops.ensures.adds c.in_ok-meet_pops.ensures.indexed
    c.add_edge-2.new.self c.in_ok-add_edge-2.ensures.ok
