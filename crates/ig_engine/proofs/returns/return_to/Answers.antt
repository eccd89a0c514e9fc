use Rattle.std.proofs.Common.{[], Some, refl}
use Rattle.std.specs.Prelude.{None, Ok, Err}
use Rattle.std.proofs.lemmas.Option.{slice_get_within}
use Rattle.ig_engine.specs.Reached.{reached}
use Rattle.ig_engine.proofs.Adding.{adds_exit, adds_stops}
use Rattle.ig_engine.proofs.Lists.{extends_itself}
use Rattle.ig_engine.proofs.Returning.{edge_bare, edge_caller, edge_says, indexed_here, indexed_then, new_here, returned_some}
use Rattle.ig_engine.proofs.returns.return_to.Goals as goal

pub item_at-item-requires : goal.item_at-item-requires
item_at-item-requires g c = slice_get_within c.args.found.now.items c.args.edge.item c.requires.edge.item c.requires.edge.there

pub returns-in_err-behind-clause-adds : goal.returns-in_err-behind-clause-adds
returns-in_err-behind-clause-adds g c =
    adds_exit _ c.args.context.now.budget (reached c.args.envs.now.keys c.args.stacks.now c.args.found.now) _ c.from_residual.result c.from_residual.ensures.1

pub add_behind_call-requires-clause-new : goal.add_behind_call-requires-clause-new
add_behind_call-requires-clause-new g c =
    let a = reached c.args.envs.now.keys c.args.stacks.now c.args.found.now in
    let calls =
    edge_bare c.args.context.now.core.now c.args.context.now.text.now a c.args.edge c.requires.edge c.item_at-item.result c.item_at-item.ensures
    c.if-edge.true in
    λ is. new_here c.laws.ensures.tables c.args.context.now.core.now c.args.context.now.text.now a c.requires.tables c.args.edge.item
    c.item_at-item.result c.item_at-item.ensures c.args.done c.args.end c.requires.edge.callee None [] calls c.args.envs.now.keys
    (extends_itself c.args.envs.now.keys) c.requires.tables.environments (Some c.in_ok-behind.behind)
    (c.in_ok-behind.ensures c.args.context.now.text.now c.args.envs.now.keys) c.args.context.now.budget (c.requires.new is) c.in_ok-behind.behind refl

pub add_behind_call-requires-clause-indexed : goal.add_behind_call-requires-clause-indexed
add_behind_call-requires-clause-indexed g c =
    let a = reached c.args.envs.now.keys c.args.stacks.now c.args.found.now in
    let calls =
    edge_bare c.args.context.now.core.now c.args.context.now.text.now a c.args.edge c.requires.edge c.item_at-item.result c.item_at-item.ensures
    c.if-edge.true in
    λ is. indexed_here c.laws.ensures.tables c.args.context.now.core.now c.args.context.now.text.now a c.requires.tables c.args.edge.item
    c.item_at-item.result c.item_at-item.ensures c.args.done c.args.end c.requires.edge.callee None [] calls c.args.envs.now.keys
    (extends_itself c.args.envs.now.keys) c.requires.tables.environments (Some c.in_ok-behind.behind)
    (c.in_ok-behind.ensures c.args.context.now.text.now c.args.envs.now.keys) c.args.context.now.budget c.args.edge.is_first
    (edge_says c.args.context.now.core.now c.args.context.now.text.now a c.args.edge c.requires.edge
    c.item_at-item.result c.item_at-item.ensures).first
    c.requires.indexed is c.in_ok-behind.behind refl

pub returns-in_err-add_behind_call-clause-adds : goal.returns-in_err-add_behind_call-clause-adds
returns-in_err-add_behind_call-clause-adds g c =
    let a = reached c.args.envs.now.keys c.args.stacks.now c.args.found.now in
    let calls =
    edge_bare c.args.context.now.core.now c.args.context.now.text.now a c.args.edge c.requires.edge c.item_at-item.result c.item_at-item.ensures
    c.if-edge.true in
    let f = c.in_err-add_behind_call.field-0.0 in
    adds_stops _ c.args.context.now.budget a (reached c.args.envs.now.keys c.args.stacks.now c.add_behind_call.new.found)
    c.from_residual-in_err-add_behind_call.result f c.from_residual-in_err-add_behind_call.ensures.1
    (returned_some c.laws.ensures.tables c.args.context.now.core.now c.args.context.now.text.now a c.requires.tables c.args.edge.item
    c.item_at-item.result c.item_at-item.ensures c.args.done c.args.end c.requires.edge.callee None [] calls c.args.envs.now.keys
    (extends_itself c.args.envs.now.keys) c.requires.tables.environments (Some c.in_ok-behind.behind)
    (c.in_ok-behind.ensures c.args.context.now.text.now c.args.envs.now.keys) c.args.context.now.budget c.in_ok-behind.behind refl
    c.add_behind_call.new.found c.args.edge.is_first (Err f) c.in_err-add_behind_call.ensures)

pub returns-then-edge-clause-adds : goal.returns-then-edge-clause-adds
returns-then-edge-clause-adds g c =
    let a = reached c.args.envs.now.keys c.args.stacks.now c.args.found.now in
    let calls =
    edge_bare c.args.context.now.core.now c.args.context.now.text.now a c.args.edge c.requires.edge c.item_at-item.result c.item_at-item.ensures
    c.if-edge.true in
    returned_some c.laws.ensures.tables c.args.context.now.core.now c.args.context.now.text.now a c.requires.tables c.args.edge.item
    c.item_at-item.result c.item_at-item.ensures c.args.done c.args.end c.requires.edge.callee None [] calls c.args.envs.now.keys
    (extends_itself c.args.envs.now.keys) c.requires.tables.environments (Some c.in_ok-behind.behind)
    (c.in_ok-behind.ensures c.args.context.now.text.now c.args.envs.now.keys) c.args.context.now.budget c.in_ok-behind.behind refl
    c.add_behind_call.new.found c.args.edge.is_first (Ok tt) c.in_ok-add_behind_call.ensures

pub returns-then-edge-clause-indexed : goal.returns-then-edge-clause-indexed
returns-then-edge-clause-indexed g c =
    let a = reached c.args.envs.now.keys c.args.stacks.now c.args.found.now in
    let calls =
    edge_bare c.args.context.now.core.now c.args.context.now.text.now a c.args.edge c.requires.edge c.item_at-item.result c.item_at-item.ensures
    c.if-edge.true in
    indexed_then c.laws.ensures.tables c.args.context.now.core.now c.args.context.now.text.now a c.requires.tables c.args.edge.item
    c.item_at-item.result c.item_at-item.ensures c.args.done c.args.end c.requires.edge.callee None [] calls c.args.envs.now.keys
    (extends_itself c.args.envs.now.keys) c.requires.tables.environments (Some c.in_ok-behind.behind)
    (c.in_ok-behind.ensures c.args.context.now.text.now c.args.envs.now.keys) c.args.context.now.budget c.args.edge.is_first
    (edge_says c.args.context.now.core.now c.args.context.now.text.now a c.args.edge c.requires.edge
    c.item_at-item.result c.item_at-item.ensures).first
    c.requires.indexed c.in_ok-behind.behind refl c.add_behind_call.new.found (Ok tt) c.in_ok-add_behind_call.ensures

pub return_qualified-requires-clause-calls : goal.return_qualified-requires-clause-calls
return_qualified-requires-clause-calls g c =
    edge_caller c.args.context.now.core.now c.args.context.now.text.now (reached c.args.envs.now.keys c.args.stacks.now c.args.found.now) c.args.edge
    c.requires.edge c.item_at-item.result c.item_at-item.ensures

pub return_qualified-requires-clause-says : goal.return_qualified-requires-clause-says
return_qualified-requires-clause-says g c =
    edge_says c.args.context.now.core.now c.args.context.now.text.now (reached c.args.envs.now.keys c.args.stacks.now c.args.found.now) c.args.edge
    c.requires.edge c.item_at-item.result c.item_at-item.ensures
