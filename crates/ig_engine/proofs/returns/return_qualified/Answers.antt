use Rattle.ig_text.proofs.Lists.{contains_from_at}
use Rattle.ig_engine.specs.Reached.{means, reached}
use Rattle.ig_engine.proofs.Adding.{adds_exit}
use Rattle.ig_engine.proofs.Returning.{call_there, indexed_here, indexed_then, new_here, returned_none, returned_some}
use Rattle.ig_engine.proofs.returns.return_qualified.Goals as goal

pub nonterminal_of-nonterminal-requires : goal.nonterminal_of-nonterminal-requires
nonterminal_of-nonterminal-requires g c =
    (c.requires.tables.items c.args.item (contains_from_at c.args.found.now.items c.args.edge.item c.args.item c.requires.there)).instance

pub behind_return-requires-clause-there : goal.behind_return-requires-clause-there
behind_return-requires-clause-there g c =
    (c.requires.tables.items c.args.item (contains_from_at c.args.found.now.items c.args.edge.item c.args.item c.requires.there)).env

pub behind_return-requires-clause-calls : goal.behind_return-requires-clause-calls
behind_return-requires-clause-calls g c =
    let call = c.requires.calls.1 in (
      call.label,
      call.excluded,
      call_there c.laws.ensures.tables c.args.context.now.core.now c.args.context.now.text.now
          (means (reached c.args.envs.now.keys c.args.stacks.now c.args.found.now) c.args.item) c.requires.calls.0 call.label call.excluded call.calls
          c.nonterminal_of-nonterminal.result c.nonterminal_of-nonterminal.ensures,
    )

pub returns-in_err-behind-clause-adds : goal.returns-in_err-behind-clause-adds
returns-in_err-behind-clause-adds g c =
    adds_exit _ c.args.context.now.budget (reached c.args.envs.now.keys c.args.stacks.now c.args.found.now) _ c.from_residual.result c.from_residual.ensures.1

pub returns-in_default-clause-adds : goal.returns-in_default-clause-adds
returns-in_default-clause-adds g c =
    let a = reached c.args.envs.now.keys c.args.stacks.now c.args.found.now in
    let call = c.requires.calls.1 in
    let m =
    c.in_ok-behind.ensures.moves call.label call.excluded
    (call_there c.laws.ensures.tables c.args.context.now.core.now c.args.context.now.text.now (means a c.args.item) c.requires.calls.0 call.label call.excluded call.calls
    c.nonterminal_of-nonterminal.result c.nonterminal_of-nonterminal.ensures) in
    returned_none c.laws.ensures.tables c.args.context.now.core.now c.args.context.now.text.now a c.requires.tables c.args.edge.item c.args.item c.requires.there c.args.done c.args.end
    c.requires.calls.0 call.label call.excluded call.calls c.behind_return.new.envs.keys c.in_ok-behind.ensures.extends
    (c.in_ok-behind.ensures.once c.requires.tables.environments) _ m c.args.context.now.budget c.in_default.is

pub add_behind_call-requires-clause-new : goal.add_behind_call-requires-clause-new
add_behind_call-requires-clause-new g c =
    let a = reached c.args.envs.now.keys c.args.stacks.now c.args.found.now in
    let call = c.requires.calls.1 in
    let m =
    c.in_ok-behind.ensures.moves call.label call.excluded
    (call_there c.laws.ensures.tables c.args.context.now.core.now c.args.context.now.text.now (means a c.args.item) c.requires.calls.0 call.label call.excluded call.calls
    c.nonterminal_of-nonterminal.result c.nonterminal_of-nonterminal.ensures) in
    λ is. new_here c.laws.ensures.tables c.args.context.now.core.now c.args.context.now.text.now a c.requires.tables c.args.edge.item c.args.item c.requires.there c.args.done c.args.end
    c.requires.calls.0 call.label call.excluded call.calls c.behind_return.new.envs.keys c.in_ok-behind.ensures.extends
    (c.in_ok-behind.ensures.once c.requires.tables.environments) _ m c.args.context.now.budget (c.requires.new is) c.in-Some.behind c.in-Some.is

pub add_behind_call-requires-clause-indexed : goal.add_behind_call-requires-clause-indexed
add_behind_call-requires-clause-indexed g c =
    let a = reached c.args.envs.now.keys c.args.stacks.now c.args.found.now in
    let call = c.requires.calls.1 in
    let m =
    c.in_ok-behind.ensures.moves call.label call.excluded
    (call_there c.laws.ensures.tables c.args.context.now.core.now c.args.context.now.text.now (means a c.args.item) c.requires.calls.0 call.label call.excluded call.calls
    c.nonterminal_of-nonterminal.result c.nonterminal_of-nonterminal.ensures) in
    λ is. indexed_here c.laws.ensures.tables c.args.context.now.core.now c.args.context.now.text.now a c.requires.tables c.args.edge.item c.args.item c.requires.there c.args.done c.args.end
    c.requires.calls.0 call.label call.excluded call.calls c.behind_return.new.envs.keys c.in_ok-behind.ensures.extends
    (c.in_ok-behind.ensures.once c.requires.tables.environments) _ m c.args.context.now.budget c.args.edge.is_first c.requires.says.first c.requires.indexed is c.in-Some.behind c.in-Some.is

pub returns-clause-adds : goal.returns-clause-adds
returns-clause-adds g c =
    let a = reached c.args.envs.now.keys c.args.stacks.now c.args.found.now in
    let call = c.requires.calls.1 in
    let m =
    c.in_ok-behind.ensures.moves call.label call.excluded
    (call_there c.laws.ensures.tables c.args.context.now.core.now c.args.context.now.text.now (means a c.args.item) c.requires.calls.0 call.label call.excluded call.calls
    c.nonterminal_of-nonterminal.result c.nonterminal_of-nonterminal.ensures) in
    returned_some c.laws.ensures.tables c.args.context.now.core.now c.args.context.now.text.now a c.requires.tables c.args.edge.item c.args.item c.requires.there c.args.done c.args.end
    c.requires.calls.0 call.label call.excluded call.calls c.behind_return.new.envs.keys c.in_ok-behind.ensures.extends
    (c.in_ok-behind.ensures.once c.requires.tables.environments) _ m c.args.context.now.budget c.in-Some.behind c.in-Some.is c.add_behind_call.new.found c.args.edge.is_first c.add_behind_call.result
    c.add_behind_call.ensures

pub returns-clause-indexed : goal.returns-clause-indexed
returns-clause-indexed g c =
    let a = reached c.args.envs.now.keys c.args.stacks.now c.args.found.now in
    let call = c.requires.calls.1 in
    let m =
    c.in_ok-behind.ensures.moves call.label call.excluded
    (call_there c.laws.ensures.tables c.args.context.now.core.now c.args.context.now.text.now (means a c.args.item) c.requires.calls.0 call.label call.excluded call.calls
    c.nonterminal_of-nonterminal.result c.nonterminal_of-nonterminal.ensures) in
    indexed_then c.laws.ensures.tables c.args.context.now.core.now c.args.context.now.text.now a c.requires.tables c.args.edge.item c.args.item c.requires.there c.args.done c.args.end
    c.requires.calls.0 call.label call.excluded call.calls c.behind_return.new.envs.keys c.in_ok-behind.ensures.extends
    (c.in_ok-behind.ensures.once c.requires.tables.environments) _ m c.args.context.now.budget c.args.edge.is_first c.requires.says.first c.requires.indexed c.in-Some.behind c.in-Some.is
    c.add_behind_call.new.found c.add_behind_call.result c.add_behind_call.ensures
