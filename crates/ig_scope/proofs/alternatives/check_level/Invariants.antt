use Rattle.std.proofs.Common.{◌≡◌, ◌+◌, take}
use Rattle.std.specs.Prelude.{All}
use Rattle.ig_scope.specs.AlternativesTold.{AlternativeFree}
use Rattle.ig_scope.proofs.alternatives.check_level.Given as goal

abbrev pub invariant-loop-alternative : goal.invariant-loop-alternative
invariant-loop-alternative l = record {
  counted : l.next ≡ l.before + l.alternative-index;
  free : All (AlternativeFree l.numbered.declarations.now l.numbered.decl.now) (take l.alternative-index l.alts);
  kept : l.variables ≡ l.initial.variables;
}
