use Rattle.std.proofs.Common.{◌≡◌, ◌++◌, drop, map}
use Rattle.ig_grammar.specs.View.{symbol_of}
use Rattle.ig_ebnf.proofs.placing.push_copies.Given as goal

abbrev pub invariant-loop-symbol : goal.invariant-loop-symbol
invariant-loop-symbol l =
    l.all ++ map symbol_of (drop l.symbol-index l.symbol-items) ≡ l.initial.all ++ map symbol_of l.symbol-items
