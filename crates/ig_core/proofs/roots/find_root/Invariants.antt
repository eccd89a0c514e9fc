use Rattle.std.proofs.Common.{◌≡◌, drop}
use Rattle.ig_core.specs.CoreOf.{root_among}
use Rattle.ig_core.proofs.roots.find_root.Given as goal

abbrev pub invariant-loop-index : goal.invariant-loop-index
invariant-loop-index l = root_among (drop l.index l.decls) (drop l.index l.checked.shapes) ≡ root_among l.decls l.checked.shapes
