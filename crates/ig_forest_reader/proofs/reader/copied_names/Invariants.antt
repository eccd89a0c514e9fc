use Rattle.std.proofs.Common.{◌≡◌, map, take}
use Rattle.ig_forest_reader.proofs.reader.copied_names.Given as goal

abbrev pub invariant-loop-nonterminal : goal.invariant-loop-nonterminal
invariant-loop-nonterminal l = l.names ≡ map (λ n. n.name) (take l.nonterminal-index l.nonterminals)
