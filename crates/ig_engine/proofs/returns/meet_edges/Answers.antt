use Rattle.std.proofs.lemmas.Grind.{common_steps}
use Rattle.std.proofs.Common.{◌≡◌, arith, rules, sym, subst, reverse}
use Rattle.ig_text.proofs.Lists.{mapped_at}
use Rattle.ig_gss.specs.Nodes.{edges_at}
use Rattle.ig_gss.specs.declared.marks.Edge.{Edge}
use Rattle.ig_engine.specs.Reached.{means, reached}
use Rattle.ig_engine.proofs.Adding.{adds_stops}
use Rattle.ig_engine.proofs.Lists.{in_reverse, reverse_once}
use Rattle.ig_engine.proofs.Returning.{Walks, edge_on, in_whole, walk_ends, walk_goes, walk_new, walk_starts, walk_stopped, walk_stops}
use Rattle.ig_engine.proofs.returns.meet_edges.Goals as goal

pub loop-edge-init : goal.loop-edge-init
loop-edge-init g c =
    let e : c.into_iter-edge-iterator.result ≡ reverse (edges_at c.args.stacks.now c.args.node) =
    first_of (search rules, grind (arith, common_steps)) in
    record {
      walk = subst (λ z. Walks c.args.context.now.core.now c.args.context.now.text.now c.args.context.now.budget (reached c.args.envs.now.keys c.args.stacks.now c.args.found.now) (λ edge. edge.item) (λ edge. c.args.done) (λ edge. c.args.end) (reverse (edges_at c.args.stacks.now c.args.node)) z (reached c.args.envs.now.keys c.args.stacks.now c.args.found.now))
          (sym e) (walk_starts c.laws.ensures.tables c.args.context.now.core.now c.args.context.now.text.now c.args.context.now.budget (reached c.args.envs.now.keys c.args.stacks.now c.args.found.now) c.requires.tables Edge (λ edge. edge.item) (λ edge. c.args.done) (λ edge. c.args.end) (reverse (edges_at c.args.stacks.now c.args.node)));
      indexed = c.requires.indexed;
    }

pub return_to-requires-clause-tables : goal.return_to-requires-clause-tables
return_to-requires-clause-tables g c = c.loop-edge.invariant.walk.adds.tables

pub return_to-requires-clause-edge : goal.return_to-requires-clause-edge
return_to-requires-clause-edge g c =
    let w =
    subst (λ z. Walks c.args.context.now.core.now c.args.context.now.text.now c.args.context.now.budget (reached c.args.envs.now.keys c.args.stacks.now c.args.found.now) (λ edge. edge.item) (λ edge. c.args.done) (λ edge. c.args.end) (reverse (edges_at c.args.stacks.now c.args.node)) z
    (reached c.loop-edge.envs.keys c.args.stacks.now c.loop-edge.found)) c.in-Some.ensures.steps c.loop-edge.invariant.walk in
    let b = reached c.loop-edge.envs.keys c.args.stacks.now c.loop-edge.found in
    let in_all = in_reverse (edges_at c.args.stacks.now c.args.node) c.in-Some.edge.now (in_whole c.laws.ensures.tables c.args.context.now.core.now c.args.context.now.text.now c.args.context.now.budget (reached c.args.envs.now.keys c.args.stacks.now c.args.found.now) c.requires.tables Edge (λ edge. edge.item) (λ edge. c.args.done) (λ edge. c.args.end) (reverse (edges_at c.args.stacks.now c.args.node)) c.next.new.self c.in-Some.edge.now b w) in
    edge_on c.laws.ensures.tables c.args.context.now.core.now c.args.context.now.text.now _ c.args.context.now.budget (reached c.args.envs.now.keys c.args.stacks.now c.args.found.now) b c.requires.tables w.adds c.in-Some.edge.now (c.requires.edges c.in-Some.edge.now in_all)

pub return_to-requires-clause-indexed : goal.return_to-requires-clause-indexed
return_to-requires-clause-indexed g c = c.loop-edge.invariant.indexed

pub return_to-requires-clause-new : goal.return_to-requires-clause-new
return_to-requires-clause-new g c =
    let w =
    subst (λ z. Walks c.args.context.now.core.now c.args.context.now.text.now c.args.context.now.budget (reached c.args.envs.now.keys c.args.stacks.now c.args.found.now) (λ edge. edge.item) (λ edge. c.args.done) (λ edge. c.args.end) (reverse (edges_at c.args.stacks.now c.args.node)) z
    (reached c.loop-edge.envs.keys c.args.stacks.now c.loop-edge.found)) c.in-Some.ensures.steps c.loop-edge.invariant.walk in
    let b = reached c.loop-edge.envs.keys c.args.stacks.now c.loop-edge.found in
    let in_all = in_reverse (edges_at c.args.stacks.now c.args.node) c.in-Some.edge.now (in_whole c.laws.ensures.tables c.args.context.now.core.now c.args.context.now.text.now c.args.context.now.budget (reached c.args.envs.now.keys c.args.stacks.now c.args.found.now) c.requires.tables Edge (λ edge. edge.item) (λ edge. c.args.done) (λ edge. c.args.end) (reverse (edges_at c.args.stacks.now c.args.node)) c.next.new.self c.in-Some.edge.now b w) in
    let e = (c.requires.edges c.in-Some.edge.now in_all) in
    let at = mapped_at (means (reached c.args.envs.now.keys c.args.stacks.now c.args.found.now)) c.args.found.now.items c.in-Some.edge.now.item e.item e.there in
    λ is. walk_new c.laws.ensures.tables c.args.context.now.core.now c.args.context.now.text.now c.args.context.now.budget (reached c.args.envs.now.keys c.args.stacks.now c.args.found.now) c.requires.tables Edge (λ edge. edge.item) (λ edge. c.args.done) (λ edge. c.args.end) (reverse (edges_at c.args.stacks.now c.args.node)) c.next.new.self c.in-Some.edge.now b w (means (reached c.args.envs.now.keys c.args.stacks.now c.args.found.now) e.item) at (λ (d : Edge). d.item)
    (reverse_once (λ (d : Edge). d.item) (edges_at c.args.stacks.now c.args.node) (c.once.ensures.items c.args.node))
    (c.requires.new c.in-Some.edge.now in_all is)
    (λ u i p q x m n. c.requires.apart u c.in-Some.edge.now (in_reverse (edges_at c.args.stacks.now c.args.node) u i) in_all is p q x m n)

pub returns-in_err-return_to-clause-adds : goal.returns-in_err-return_to-clause-adds
returns-in_err-return_to-clause-adds g c =
    let w =
    subst (λ z. Walks c.args.context.now.core.now c.args.context.now.text.now c.args.context.now.budget (reached c.args.envs.now.keys c.args.stacks.now c.args.found.now) (λ edge. edge.item) (λ edge. c.args.done) (λ edge. c.args.end) (reverse (edges_at c.args.stacks.now c.args.node)) z
    (reached c.loop-edge.envs.keys c.args.stacks.now c.loop-edge.found)) c.in-Some.ensures.steps c.loop-edge.invariant.walk in
    let b = reached c.loop-edge.envs.keys c.args.stacks.now c.loop-edge.found in
    let in_all = in_reverse (edges_at c.args.stacks.now c.args.node) c.in-Some.edge.now (in_whole c.laws.ensures.tables c.args.context.now.core.now c.args.context.now.text.now c.args.context.now.budget (reached c.args.envs.now.keys c.args.stacks.now c.args.found.now) c.requires.tables Edge (λ edge. edge.item) (λ edge. c.args.done) (λ edge. c.args.end) (reverse (edges_at c.args.stacks.now c.args.node)) c.next.new.self c.in-Some.edge.now b w) in
    let e = (c.requires.edges c.in-Some.edge.now in_all) in
    let at = mapped_at (means (reached c.args.envs.now.keys c.args.stacks.now c.args.found.now)) c.args.found.now.items c.in-Some.edge.now.item e.item e.there in
    let f = c.in_err-return_to.field-0.0 in
    adds_stops _ c.args.context.now.budget (reached c.args.envs.now.keys c.args.stacks.now c.args.found.now) (reached c.return_to.new.envs.keys c.args.stacks.now c.return_to.new.found) c.from_residual.result f c.from_residual.ensures.1
    (walk_stopped c.laws.ensures.tables c.args.context.now.core.now c.args.context.now.text.now c.args.context.now.budget (reached c.args.envs.now.keys c.args.stacks.now c.args.found.now) c.requires.tables Edge (λ edge. edge.item) (λ edge. c.args.done) (λ edge. c.args.end) (edges_at c.args.stacks.now c.args.node) (reached c.return_to.new.envs.keys c.args.stacks.now c.return_to.new.found) f
    (walk_stops c.laws.ensures.tables c.args.context.now.core.now c.args.context.now.text.now c.args.context.now.budget (reached c.args.envs.now.keys c.args.stacks.now c.args.found.now) c.requires.tables Edge (λ edge. edge.item) (λ edge. c.args.done) (λ edge. c.args.end) (reverse (edges_at c.args.stacks.now c.args.node)) c.next.new.self c.in-Some.edge.now b w (means (reached c.args.envs.now.keys c.args.stacks.now c.args.found.now) e.item) at (reached c.return_to.new.envs.keys c.args.stacks.now c.return_to.new.found) f c.in_err-return_to.ensures.adds))

pub loop-edge-preserved : goal.loop-edge-preserved
loop-edge-preserved g c =
    let w =
    subst (λ z. Walks c.args.context.now.core.now c.args.context.now.text.now c.args.context.now.budget (reached c.args.envs.now.keys c.args.stacks.now c.args.found.now) (λ edge. edge.item) (λ edge. c.args.done) (λ edge. c.args.end) (reverse (edges_at c.args.stacks.now c.args.node)) z
    (reached c.loop-edge.envs.keys c.args.stacks.now c.loop-edge.found)) c.in-Some.ensures.steps c.loop-edge.invariant.walk in
    let b = reached c.loop-edge.envs.keys c.args.stacks.now c.loop-edge.found in
    let in_all = in_reverse (edges_at c.args.stacks.now c.args.node) c.in-Some.edge.now (in_whole c.laws.ensures.tables c.args.context.now.core.now c.args.context.now.text.now c.args.context.now.budget (reached c.args.envs.now.keys c.args.stacks.now c.args.found.now) c.requires.tables Edge (λ edge. edge.item) (λ edge. c.args.done) (λ edge. c.args.end) (reverse (edges_at c.args.stacks.now c.args.node)) c.next.new.self c.in-Some.edge.now b w) in
    let e = (c.requires.edges c.in-Some.edge.now in_all) in
    let at = mapped_at (means (reached c.args.envs.now.keys c.args.stacks.now c.args.found.now)) c.args.found.now.items c.in-Some.edge.now.item e.item e.there in
    record {
      walk = walk_goes c.laws.ensures.tables c.args.context.now.core.now c.args.context.now.text.now c.args.context.now.budget (reached c.args.envs.now.keys c.args.stacks.now c.args.found.now) c.requires.tables Edge (λ edge. edge.item) (λ edge. c.args.done) (λ edge. c.args.end) (reverse (edges_at c.args.stacks.now c.args.node)) c.next.new.self c.in-Some.edge.now b w (means (reached c.args.envs.now.keys c.args.stacks.now c.args.found.now) e.item) at (reached c.return_to.new.envs.keys c.args.stacks.now c.return_to.new.found) c.in_ok-return_to.ensures.adds;
      indexed = c.in_ok-return_to.ensures.indexed;
    }

pub returns-clause-adds : goal.returns-clause-adds
returns-clause-adds g c =
    walk_ends c.laws.ensures.tables c.args.context.now.core.now c.args.context.now.text.now c.args.context.now.budget (reached c.args.envs.now.keys c.args.stacks.now c.args.found.now) c.requires.tables Edge (λ edge. edge.item) (λ edge. c.args.done) (λ edge. c.args.end) (edges_at c.args.stacks.now c.args.node) c.loop-edge.edge-iterator (reached c.loop-edge.envs.keys c.args.stacks.now c.loop-edge.found) c.in-None.ensures.steps.0 c.loop-edge.invariant.walk

pub returns-clause-indexed : goal.returns-clause-indexed
returns-clause-indexed g c = c.loop-edge.invariant.indexed
