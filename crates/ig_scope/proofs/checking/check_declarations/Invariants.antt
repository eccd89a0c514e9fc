use Rattle.std.proofs.Common.{◌≡◌, take}
use Rattle.ig_scope.specs.Heads.{count_names, have_layout}
use Rattle.ig_scope.specs.Told.{AreFree}
use Rattle.ig_scope.proofs.checking.check_declarations.Given as goal

abbrev pub invariant-loop-before : goal.invariant-loop-before
invariant-loop-before l = record {
  free : AreFree l.declarations l.before;
  named : l.named ≡ count_names (take l.before l.declarations);
  layout : l.has_layout ≡ have_layout (take l.before l.declarations);
}
