use Rattle.std.proofs.Common.{◌≡◌, ◌≤◌, length}
use Rattle.ig_forest_reader.proofs.NameIndex.{IndexBelow}
use Rattle.ig_forest_reader.proofs.names.numbers_of.Given as goal

abbrev pub invariant-loop-nonterminal : goal.invariant-loop-nonterminal
invariant-loop-nonterminal l =
    (l.number ≡ l.nonterminal-index) × (l.number ≤ length l.nonterminals) × IndexBelow l.nonterminals l.number l.index
