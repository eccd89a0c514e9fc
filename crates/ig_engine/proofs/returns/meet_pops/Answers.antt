use Rattle.std.proofs.lemmas.Grind.{common_steps}
use Rattle.std.proofs.Common.{◌≡◌, arith, rules, ap, ◌∙◌, sym, subst, reverse}
use Rattle.ig_text.proofs.Lists.{mapped_at}
use Rattle.ig_gss.specs.Nodes.{pops_at}
use Rattle.ig_gss.specs.declared.marks.Pop.{Pop}
use Rattle.ig_item.specs.Items.{Item}
use Rattle.ig_engine.specs.Reached.{means, reached}
use Rattle.ig_engine.proofs.Adding.{adds_stops}
use Rattle.ig_engine.proofs.Lists.{in_reverse, reverse_once}
use Rattle.ig_engine.proofs.Returning.{Walks, edge_on, in_whole, walk_ends, walk_goes, walk_new, walk_starts, walk_stopped, walk_stops}
use Rattle.ig_engine.proofs.returns.meet_pops.Goals as goal

pub loop-pop-init : goal.loop-pop-init
loop-pop-init g c =
    let e : c.into_iter-pop-iterator.result ≡ reverse (pops_at c.args.stacks.now c.args.node) =
    first_of (search rules, grind (arith, common_steps)) in
    record {
      walk = subst (λ z. Walks c.args.context.now.core.now c.args.context.now.text.now c.args.context.now.budget (reached c.args.envs.now.keys c.args.stacks.now c.args.found.now) (λ pop. c.args.edge.item) (λ pop. pop.done) (λ pop. pop.end) (reverse (pops_at c.args.stacks.now c.args.node)) z (reached c.args.envs.now.keys c.args.stacks.now c.args.found.now))
          (sym e) (walk_starts c.laws.ensures.tables c.args.context.now.core.now c.args.context.now.text.now c.args.context.now.budget (reached c.args.envs.now.keys c.args.stacks.now c.args.found.now) c.requires.tables Pop (λ pop. c.args.edge.item) (λ pop. pop.done) (λ pop. pop.end) (reverse (pops_at c.args.stacks.now c.args.node)));
      indexed = c.requires.indexed;
    }

pub return_to-requires-clause-tables : goal.return_to-requires-clause-tables
return_to-requires-clause-tables g c = c.loop-pop.invariant.walk.adds.tables

pub return_to-requires-clause-edge : goal.return_to-requires-clause-edge
return_to-requires-clause-edge g c =
    let w =
    subst (λ z. Walks c.args.context.now.core.now c.args.context.now.text.now c.args.context.now.budget (reached c.args.envs.now.keys c.args.stacks.now c.args.found.now) (λ pop. c.args.edge.item) (λ pop. pop.done) (λ pop. pop.end) (reverse (pops_at c.args.stacks.now c.args.node)) z
    (reached c.loop-pop.envs.keys c.args.stacks.now c.loop-pop.found)) c.in-Some.ensures.steps c.loop-pop.invariant.walk in
    let b = reached c.loop-pop.envs.keys c.args.stacks.now c.loop-pop.found in
    edge_on c.laws.ensures.tables c.args.context.now.core.now c.args.context.now.text.now _ c.args.context.now.budget (reached c.args.envs.now.keys c.args.stacks.now c.args.found.now) b c.requires.tables w.adds c.args.edge c.requires.edge

pub return_to-requires-clause-indexed : goal.return_to-requires-clause-indexed
return_to-requires-clause-indexed g c = c.loop-pop.invariant.indexed

pub return_to-requires-clause-new : goal.return_to-requires-clause-new
return_to-requires-clause-new g c =
    let w =
    subst (λ z. Walks c.args.context.now.core.now c.args.context.now.text.now c.args.context.now.budget (reached c.args.envs.now.keys c.args.stacks.now c.args.found.now) (λ pop. c.args.edge.item) (λ pop. pop.done) (λ pop. pop.end) (reverse (pops_at c.args.stacks.now c.args.node)) z
    (reached c.loop-pop.envs.keys c.args.stacks.now c.loop-pop.found)) c.in-Some.ensures.steps c.loop-pop.invariant.walk in
    let b = reached c.loop-pop.envs.keys c.args.stacks.now c.loop-pop.found in
    let in_all = in_reverse (pops_at c.args.stacks.now c.args.node) c.in-Some.pop.now (in_whole c.laws.ensures.tables c.args.context.now.core.now c.args.context.now.text.now c.args.context.now.budget (reached c.args.envs.now.keys c.args.stacks.now c.args.found.now) c.requires.tables Pop (λ pop. c.args.edge.item) (λ pop. pop.done) (λ pop. pop.end) (reverse (pops_at c.args.stacks.now c.args.node)) c.next.new.self c.in-Some.pop.now b w) in
    let e = c.requires.edge in
    let at = mapped_at (means (reached c.args.envs.now.keys c.args.stacks.now c.args.found.now)) c.args.found.now.items c.args.edge.item e.item e.there in
    λ is. walk_new c.laws.ensures.tables c.args.context.now.core.now c.args.context.now.text.now c.args.context.now.budget (reached c.args.envs.now.keys c.args.stacks.now c.args.found.now) c.requires.tables Pop (λ pop. c.args.edge.item) (λ pop. pop.done) (λ pop. pop.end) (reverse (pops_at c.args.stacks.now c.args.node)) c.next.new.self c.in-Some.pop.now b w (means (reached c.args.envs.now.keys c.args.stacks.now c.args.found.now) e.item) at (λ (d : Pop). d.end)
    (reverse_once (λ (d : Pop). d.end) (pops_at c.args.stacks.now c.args.node) (c.once.ensures.ends c.args.node))
    (λ way x m. c.requires.new is way x (c.in-Some.pop.now, in_all, m))
    (λ u i p q x m n. ap (λ (z : Item). z.position) (sym m.4.is ∙ n.4.is))

pub returns-in_err-return_to-clause-adds : goal.returns-in_err-return_to-clause-adds
returns-in_err-return_to-clause-adds g c =
    let w =
    subst (λ z. Walks c.args.context.now.core.now c.args.context.now.text.now c.args.context.now.budget (reached c.args.envs.now.keys c.args.stacks.now c.args.found.now) (λ pop. c.args.edge.item) (λ pop. pop.done) (λ pop. pop.end) (reverse (pops_at c.args.stacks.now c.args.node)) z
    (reached c.loop-pop.envs.keys c.args.stacks.now c.loop-pop.found)) c.in-Some.ensures.steps c.loop-pop.invariant.walk in
    let b = reached c.loop-pop.envs.keys c.args.stacks.now c.loop-pop.found in
    let e = c.requires.edge in
    let at = mapped_at (means (reached c.args.envs.now.keys c.args.stacks.now c.args.found.now)) c.args.found.now.items c.args.edge.item e.item e.there in
    let f = c.in_err-return_to.field-0.0 in
    adds_stops _ c.args.context.now.budget (reached c.args.envs.now.keys c.args.stacks.now c.args.found.now) (reached c.return_to.new.envs.keys c.args.stacks.now c.return_to.new.found) c.from_residual.result f c.from_residual.ensures.1
    (walk_stopped c.laws.ensures.tables c.args.context.now.core.now c.args.context.now.text.now c.args.context.now.budget (reached c.args.envs.now.keys c.args.stacks.now c.args.found.now) c.requires.tables Pop (λ pop. c.args.edge.item) (λ pop. pop.done) (λ pop. pop.end) (pops_at c.args.stacks.now c.args.node) (reached c.return_to.new.envs.keys c.args.stacks.now c.return_to.new.found) f
    (walk_stops c.laws.ensures.tables c.args.context.now.core.now c.args.context.now.text.now c.args.context.now.budget (reached c.args.envs.now.keys c.args.stacks.now c.args.found.now) c.requires.tables Pop (λ pop. c.args.edge.item) (λ pop. pop.done) (λ pop. pop.end) (reverse (pops_at c.args.stacks.now c.args.node)) c.next.new.self c.in-Some.pop.now b w (means (reached c.args.envs.now.keys c.args.stacks.now c.args.found.now) e.item) at (reached c.return_to.new.envs.keys c.args.stacks.now c.return_to.new.found) f c.in_err-return_to.ensures.adds))

pub loop-pop-preserved : goal.loop-pop-preserved
loop-pop-preserved g c =
    let w =
    subst (λ z. Walks c.args.context.now.core.now c.args.context.now.text.now c.args.context.now.budget (reached c.args.envs.now.keys c.args.stacks.now c.args.found.now) (λ pop. c.args.edge.item) (λ pop. pop.done) (λ pop. pop.end) (reverse (pops_at c.args.stacks.now c.args.node)) z
    (reached c.loop-pop.envs.keys c.args.stacks.now c.loop-pop.found)) c.in-Some.ensures.steps c.loop-pop.invariant.walk in
    let b = reached c.loop-pop.envs.keys c.args.stacks.now c.loop-pop.found in
    let e = c.requires.edge in
    let at = mapped_at (means (reached c.args.envs.now.keys c.args.stacks.now c.args.found.now)) c.args.found.now.items c.args.edge.item e.item e.there in
    record {
      walk = walk_goes c.laws.ensures.tables c.args.context.now.core.now c.args.context.now.text.now c.args.context.now.budget (reached c.args.envs.now.keys c.args.stacks.now c.args.found.now) c.requires.tables Pop (λ pop. c.args.edge.item) (λ pop. pop.done) (λ pop. pop.end) (reverse (pops_at c.args.stacks.now c.args.node)) c.next.new.self c.in-Some.pop.now b w (means (reached c.args.envs.now.keys c.args.stacks.now c.args.found.now) e.item) at (reached c.return_to.new.envs.keys c.args.stacks.now c.return_to.new.found) c.in_ok-return_to.ensures.adds;
      indexed = c.in_ok-return_to.ensures.indexed;
    }

pub returns-clause-adds : goal.returns-clause-adds
returns-clause-adds g c =
    walk_ends c.laws.ensures.tables c.args.context.now.core.now c.args.context.now.text.now c.args.context.now.budget (reached c.args.envs.now.keys c.args.stacks.now c.args.found.now) c.requires.tables Pop (λ pop. c.args.edge.item) (λ pop. pop.done) (λ pop. pop.end) (pops_at c.args.stacks.now c.args.node) c.loop-pop.pop-iterator (reached c.loop-pop.envs.keys c.args.stacks.now c.loop-pop.found) c.in-None.ensures.steps.0 c.loop-pop.invariant.walk

pub returns-clause-indexed : goal.returns-clause-indexed
returns-clause-indexed g c = c.loop-pop.invariant.indexed
