use Rattle.std.proofs.Common.{subst, sym}
use Rattle.std.specs.Prelude.{Contains, Ok}
use Rattle.ig_gss.specs.Nodes.{ended, ends_at, keys_of, pops_at}
use Rattle.ig_item.specs.Items.{IsComplete}
use Rattle.ig_engine.specs.Adding.{Events}
use Rattle.ig_engine.specs.Reached.{AreIndexed, Taking, means, reached}
use Rattle.ig_engine.proofs.Ends.{again, edges_apart, edges_are, edges_new, ends, ends_stopped, node_within}
use Rattle.ig_engine.proofs.Event.{event_exit, event_stops, tables}
use Rattle.ig_engine.proofs.events.take_complete.Goals as goal

pub pop_at-requires : goal.pop_at-requires
pop_at-requires g c = node_within c.laws.ensures c.args.context.now.core.now c.args.context.now.text.now c.args.context.now.budget c.args.item c.args.number (reached c.args.state.now.envs.keys c.args.state.now.stacks c.args.state.now.found) c.requires.taking c.requires.complete

pub returns-in_err-before : goal.returns-in_err-before
returns-in_err-before g c = event_exit c.args.context.now.core.now c.args.context.now.text.now c.args.context.now.budget (reached c.args.state.now.envs.keys c.args.state.now.stacks c.args.state.now.found) _ c.from_residual.result c.from_residual.ensures.1

pub returns-in_err-add_end : goal.returns-in_err-add_end
returns-in_err-add_end g c = event_exit c.args.context.now.core.now c.args.context.now.text.now c.args.context.now.budget (reached c.args.state.now.envs.keys c.args.state.now.stacks c.args.state.now.found) _ c.from_residual-in_err-add_end.result c.from_residual-in_err-add_end.ensures.1

pub returns-in-Some : goal.returns-in-Some
returns-in-Some g c =
    let same = c.in_ok-before.ensures.same in
    let s = reached c.args.state.now.envs.keys c.pop_at.new.self c.args.state.now.found in
    let taking = subst (λ z. Taking c.args.context.now.core.now c.args.context.now.text.now c.args.context.now.budget c.args.item c.args.number (reached c.args.state.now.envs.keys z c.args.state.now.found)) (sym same) c.requires.taking in
    let complete = subst (λ z. IsComplete c.args.context.now.core.now (means (reached c.args.state.now.envs.keys z c.args.state.now.found) c.args.item)) (sym same) c.requires.complete in
    subst (λ z. Events c.args.context.now.core.now c.args.context.now.text.now c.args.context.now.budget (reached c.args.state.now.envs.keys z c.args.state.now.found) (reached c.args.state.now.envs.keys c.pop_at.new.self c.add_end.new.self) (Ok tt)) same
    (again c.laws.ensures c.args.context.now.core.now c.args.context.now.text.now c.args.context.now.budget c.args.item c.args.number s taking complete c.in-Some.done (subst (λ z. Contains (pops_at z c.args.item.instance) (ended c.args.item.position c.in-Some.done)) (sym same) (rw c.in-Some.is at c.in_ok-before.ensures.some)) c.add_end.new.self c.in_ok-add_end.ensures.ok)

pub meet_edges-requires-clause-node : goal.meet_edges-requires-clause-node
meet_edges-requires-clause-node g c =
    let same = c.in_ok-before.ensures.same in
    let s = reached c.args.state.now.envs.keys c.pop_at.new.self c.args.state.now.found in
    let taking = subst (λ z. Taking c.args.context.now.core.now c.args.context.now.text.now c.args.context.now.budget c.args.item c.args.number (reached c.args.state.now.envs.keys z c.args.state.now.found)) (sym same) c.requires.taking in
    let complete = subst (λ z. IsComplete c.args.context.now.core.now (means (reached c.args.state.now.envs.keys z c.args.state.now.found) c.args.item)) (sym same) c.requires.complete in
    node_within c.laws.ensures c.args.context.now.core.now c.args.context.now.text.now c.args.context.now.budget c.args.item c.args.number s taking complete

pub meet_edges-requires-clause-tables : goal.meet_edges-requires-clause-tables
meet_edges-requires-clause-tables g c =
    let same = c.in_ok-before.ensures.same in
    let s = reached c.args.state.now.envs.keys c.pop_at.new.self c.args.state.now.found in
    let taking = subst (λ z. Taking c.args.context.now.core.now c.args.context.now.text.now c.args.context.now.budget c.args.item c.args.number (reached c.args.state.now.envs.keys z c.args.state.now.found)) (sym same) c.requires.taking in
    let complete = subst (λ z. IsComplete c.args.context.now.core.now (means (reached c.args.state.now.envs.keys z c.args.state.now.found) c.args.item)) (sym same) c.requires.complete in
    tables c.laws.ensures c.args.context.now.core.now c.args.context.now.text.now c.args.context.now.budget c.args.item c.args.number s taking

pub meet_edges-requires-clause-edges : goal.meet_edges-requires-clause-edges
meet_edges-requires-clause-edges g c =
    let same = c.in_ok-before.ensures.same in
    let s = reached c.args.state.now.envs.keys c.pop_at.new.self c.args.state.now.found in
    let taking = subst (λ z. Taking c.args.context.now.core.now c.args.context.now.text.now c.args.context.now.budget c.args.item c.args.number (reached c.args.state.now.envs.keys z c.args.state.now.found)) (sym same) c.requires.taking in
    let complete = subst (λ z. IsComplete c.args.context.now.core.now (means (reached c.args.state.now.envs.keys z c.args.state.now.found) c.args.item)) (sym same) c.requires.complete in
    edges_are c.laws.ensures c.args.context.now.core.now c.args.context.now.text.now c.args.context.now.budget c.args.item c.args.number s taking complete

pub meet_edges-requires-clause-indexed : goal.meet_edges-requires-clause-indexed
meet_edges-requires-clause-indexed g c =
    let same = c.in_ok-before.ensures.same in
    subst (λ z. AreIndexed c.args.context.now.core.now (keys_of z) c.args.state.now.found) (sym same) c.requires.taking.before.indexed

pub meet_edges-requires-clause-new : goal.meet_edges-requires-clause-new
meet_edges-requires-clause-new g c =
    let none = rw c.in_default.is at c.in_ok-before.ensures.none in
    let same = c.in_ok-before.ensures.same in
    let s = reached c.args.state.now.envs.keys c.pop_at.new.self c.args.state.now.found in
    let taking = subst (λ z. Taking c.args.context.now.core.now c.args.context.now.text.now c.args.context.now.budget c.args.item c.args.number (reached c.args.state.now.envs.keys z c.args.state.now.found)) (sym same) c.requires.taking in
    let complete = subst (λ z. IsComplete c.args.context.now.core.now (means (reached c.args.state.now.envs.keys z c.args.state.now.found) c.args.item)) (sym same) c.requires.complete in
    edges_new c.laws.ensures c.args.context.now.core.now c.args.context.now.text.now c.args.context.now.budget c.args.item c.args.number s taking complete (λ h. none (subst (λ z. Contains (ends_at z c.args.item.instance) c.args.item.position) same h))

pub meet_edges-requires-clause-apart : goal.meet_edges-requires-clause-apart
meet_edges-requires-clause-apart g c =
    let same = c.in_ok-before.ensures.same in
    let s = reached c.args.state.now.envs.keys c.pop_at.new.self c.args.state.now.found in
    let taking = subst (λ z. Taking c.args.context.now.core.now c.args.context.now.text.now c.args.context.now.budget c.args.item c.args.number (reached c.args.state.now.envs.keys z c.args.state.now.found)) (sym same) c.requires.taking in
    let complete = subst (λ z. IsComplete c.args.context.now.core.now (means (reached c.args.state.now.envs.keys z c.args.state.now.found) c.args.item)) (sym same) c.requires.complete in
    edges_apart c.laws.ensures c.args.context.now.core.now c.args.context.now.text.now c.args.context.now.budget c.args.item c.args.number s taking complete

pub returns-in_err-meet_edges : goal.returns-in_err-meet_edges
returns-in_err-meet_edges g c =
    let same = c.in_ok-before.ensures.same in
    let s = reached c.args.state.now.envs.keys c.pop_at.new.self c.args.state.now.found in
    let taking = subst (λ z. Taking c.args.context.now.core.now c.args.context.now.text.now c.args.context.now.budget c.args.item c.args.number (reached c.args.state.now.envs.keys z c.args.state.now.found)) (sym same) c.requires.taking in
    let complete = subst (λ z. IsComplete c.args.context.now.core.now (means (reached c.args.state.now.envs.keys z c.args.state.now.found) c.args.item)) (sym same) c.requires.complete in
    let f = c.in_err-meet_edges.field-0.0 in
    subst (λ z. Events c.args.context.now.core.now c.args.context.now.text.now c.args.context.now.budget (reached c.args.state.now.envs.keys z c.args.state.now.found) (reached c.meet_edges.new.envs.keys c.pop_at.new.self c.meet_edges.new.found) c.from_residual-in_err-meet_edges.result) same
    (event_stops c.args.context.now.core.now c.args.context.now.text.now c.args.context.now.budget s (reached c.meet_edges.new.envs.keys c.pop_at.new.self c.meet_edges.new.found) c.from_residual-in_err-meet_edges.result f c.from_residual-in_err-meet_edges.ensures.1 (ends_stopped c.laws.ensures c.args.context.now.core.now c.args.context.now.text.now c.args.context.now.budget c.args.item c.args.number s taking complete (reached c.meet_edges.new.envs.keys c.pop_at.new.self c.meet_edges.new.found) f c.in_err-meet_edges.ensures.adds))

pub add_pop-requires-clause-node : goal.add_pop-requires-clause-node
add_pop-requires-clause-node g c =
    let same = c.in_ok-before.ensures.same in
    let s = reached c.args.state.now.envs.keys c.pop_at.new.self c.args.state.now.found in
    let taking = subst (λ z. Taking c.args.context.now.core.now c.args.context.now.text.now c.args.context.now.budget c.args.item c.args.number (reached c.args.state.now.envs.keys z c.args.state.now.found)) (sym same) c.requires.taking in
    let complete = subst (λ z. IsComplete c.args.context.now.core.now (means (reached c.args.state.now.envs.keys z c.args.state.now.found) c.args.item)) (sym same) c.requires.complete in
    node_within c.laws.ensures c.args.context.now.core.now c.args.context.now.text.now c.args.context.now.budget c.args.item c.args.number s taking complete

pub add_pop-requires-clause-is_new : goal.add_pop-requires-clause-is_new
add_pop-requires-clause-is_new g c =
    let none = rw c.in_default.is at c.in_ok-before.ensures.none in
    let same = c.in_ok-before.ensures.same in
    let s = reached c.args.state.now.envs.keys c.pop_at.new.self c.args.state.now.found in
    let taking = subst (λ z. Taking c.args.context.now.core.now c.args.context.now.text.now c.args.context.now.budget c.args.item c.args.number (reached c.args.state.now.envs.keys z c.args.state.now.found)) (sym same) c.requires.taking in
    let complete = subst (λ z. IsComplete c.args.context.now.core.now (means (reached c.args.state.now.envs.keys z c.args.state.now.found) c.args.item)) (sym same) c.requires.complete in
    (λ h. none (subst (λ z. Contains (ends_at z c.args.item.instance) c.args.item.position) same h))

pub returns-in_err-add_pop : goal.returns-in_err-add_pop
returns-in_err-add_pop g c = event_exit c.args.context.now.core.now c.args.context.now.text.now c.args.context.now.budget (reached c.args.state.now.envs.keys c.args.state.now.stacks c.args.state.now.found) _ c.from_residual-in_err-add_pop.result c.from_residual-in_err-add_pop.ensures.1

pub returns : goal.returns
returns g c =
    let none = rw c.in_default.is at c.in_ok-before.ensures.none in
    let same = c.in_ok-before.ensures.same in
    let s = reached c.args.state.now.envs.keys c.pop_at.new.self c.args.state.now.found in
    let taking = subst (λ z. Taking c.args.context.now.core.now c.args.context.now.text.now c.args.context.now.budget c.args.item c.args.number (reached c.args.state.now.envs.keys z c.args.state.now.found)) (sym same) c.requires.taking in
    let complete = subst (λ z. IsComplete c.args.context.now.core.now (means (reached c.args.state.now.envs.keys z c.args.state.now.found) c.args.item)) (sym same) c.requires.complete in
    subst (λ z. Events c.args.context.now.core.now c.args.context.now.text.now c.args.context.now.budget (reached c.args.state.now.envs.keys z c.args.state.now.found) (reached c.meet_edges.new.envs.keys c.add_pop.new.self c.meet_edges.new.found) (Ok tt)) same
    (ends c.laws.ensures c.args.context.now.core.now c.args.context.now.text.now c.args.context.now.budget c.args.item c.args.number s taking complete (reached c.meet_edges.new.envs.keys c.pop_at.new.self c.meet_edges.new.found) c.in_ok-meet_edges.ensures.adds c.in_ok-meet_edges.ensures.indexed (λ h. none (subst (λ z. Contains (ends_at z c.args.item.instance) c.args.item.position) same h)) c.add_pop.new.self c.in_ok-add_pop.ensures.ok)
