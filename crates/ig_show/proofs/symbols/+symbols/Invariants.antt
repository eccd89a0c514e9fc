use Rattle.std.proofs.Common.{drop, map}
use Rattle.std.specs.Prelude.{string_bytes}
use Rattle.ig_grammar.specs.Symbol.{gathered}
use Rattle.ig_grammar.specs.Alternative.{gathered_alternatives}
use Rattle.ig_grammar.specs.View.{symbol_of}
use Rattle.ig_show.specs.CanonicalText.{alternative_pieces, further_symbols, alternatives_pieces, further_alternatives}
use Rattle.ig_show.proofs.Steps.{Ahead}
use Rattle.ig_show.proofs.symbols.+symbols.Given as goal

abbrev pub invariant-push_alternative-loop-other : goal.invariant-push_alternative-loop-other
invariant-push_alternative-loop-other l =
    Ahead (string_bytes l.fn.out) (string_bytes l.out) (alternative_pieces (gathered l.fn.symbols)) (further_symbols (gathered (map symbol_of (drop l.other-index l.others))))

abbrev pub invariant-push_alternatives-loop-other : goal.invariant-push_alternatives-loop-other
invariant-push_alternatives-loop-other l =
    Ahead (string_bytes l.fn.out) (string_bytes l.out) (alternatives_pieces (gathered_alternatives l.fn.alternatives)) (further_alternatives (gathered_alternatives (drop l.other-index l.others)))
