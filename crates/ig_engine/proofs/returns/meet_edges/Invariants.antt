use Rattle.std.proofs.Common.{reverse}
use Rattle.ig_gss.specs.Nodes.{edges_at, keys_of}
use Rattle.ig_gss.specs.declared.marks.Edge.{Edge}
use Rattle.ig_engine.specs.Reached.{AreIndexed, reached}
use Rattle.ig_engine.proofs.Returning.{Walks}
use Rattle.ig_engine.proofs.returns.meet_edges.Given as goal

abbrev pub invariant-loop-edge : goal.invariant-loop-edge
invariant-loop-edge g l = record {
  walk : Walks l.context.core.now l.context.text.now l.context.budget (reached l.initial.envs.keys l.stacks l.initial.found) (λ (edge : Edge). edge.item)
      (λ (edge : Edge). l.done) (λ (edge : Edge). l.end) (reverse (edges_at l.stacks l.node)) l.edge-iterator (reached l.envs.keys l.stacks l.found);
  indexed : AreIndexed l.context.core.now (keys_of l.stacks) l.found;
}
