use Rattle.std.proofs.Common.{◌≡◌, take, Ok}
use Rattle.ig_grammar.specs.Numbering.{alternatives}
use Rattle.ig_grammar.specs.Visible.{parameters}
use Rattle.ig_scope.specs.AlternativesTold.{TellsLevel}
use Rattle.ig_scope.proofs.alternatives.check_levels.Given as goal

abbrev pub invariant-loop-level : goal.invariant-loop-level
invariant-loop-level l = record {
  told : TellsLevel l.numbered 0 (alternatives (take l.level-index l.level-items)) (Ok l.before);
  visible : l.variables ≡ parameters l.numbered.decl.now.params;
}
