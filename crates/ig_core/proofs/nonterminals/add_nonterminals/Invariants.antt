use Rattle.std.proofs.Common.{◌≡◌, ◌++◌, drop, length, ◌≤◌, ◌+◌}
use Rattle.ig_core.specs.CoreOf.{nonterminals_of, unrooted}
use Rattle.ig_core.specs.Tables.{number_by}
use Rattle.ig_core.proofs.nonterminals.add_nonterminals.Given as goal

abbrev pub invariant-loop-index : goal.invariant-loop-index
invariant-loop-index l =
    (l.built.items ++ nonterminals_of (number_by l.numbers l.missing) (length l.built.items) (unrooted (drop l.index l.decls) (drop l.index l.checked.shapes)) ≡
    l.initial.built.items ++ nonterminals_of (number_by l.numbers l.missing) (length l.initial.built.items) (unrooted l.decls l.checked.shapes)) ×
    (length l.built.items ≤ length l.initial.built.items + l.index)
