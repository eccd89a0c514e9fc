use Rattle.ig_analyse.specs.Rules.{IsWork}
use Rattle.ig_analyse.proofs.making.Work.begin.Given as goal

abbrev pub invariant-loop-rule : goal.invariant-loop-rule
invariant-loop-rule l = IsWork l.rules l.count l.rule-index l.work (λ k. 0)
