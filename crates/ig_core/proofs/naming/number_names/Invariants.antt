use Rattle.std.proofs.Common.{◌≡◌, take, length, ◌≤◌, suc}
use Rattle.ig_core.specs.CoreOf.{unrooted}
use Rattle.ig_core.specs.Tables.{Numbers}
use Rattle.ig_core.proofs.naming.number_names.Given as goal

abbrev pub invariant-loop-index : goal.invariant-loop-index
invariant-loop-index l =
    Numbers l.numbers (unrooted (take l.index l.decls) (take l.index l.checked.shapes)) ×
    (l.next ≡ suc (length (unrooted (take l.index l.decls) (take l.index l.checked.shapes)))) × (l.next ≤ suc l.index)
