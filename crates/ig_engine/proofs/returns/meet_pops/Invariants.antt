use Rattle.std.proofs.Common.{reverse}
use Rattle.ig_gss.specs.Nodes.{keys_of, pops_at}
use Rattle.ig_gss.specs.declared.marks.Pop.{Pop}
use Rattle.ig_engine.specs.Reached.{AreIndexed, reached}
use Rattle.ig_engine.proofs.Returning.{Walks}
use Rattle.ig_engine.proofs.returns.meet_pops.Given as goal

abbrev pub invariant-loop-pop : goal.invariant-loop-pop
invariant-loop-pop g l = record {
  walk : Walks l.context.core.now l.context.text.now l.context.budget (reached l.initial.envs.keys l.stacks l.initial.found) (λ (pop : Pop). l.edge.item)
      (λ (pop : Pop). pop.done) (λ (pop : Pop). pop.end) (reverse (pops_at l.stacks l.node)) l.pop-iterator (reached l.envs.keys l.stacks l.found);
  indexed : AreIndexed l.context.core.now (keys_of l.stacks) l.found;
}
