use Rattle.std.proofs.Common.{drop, map, [], ◌∷◌, if◌then◌else◌}
use Rattle.std.specs.Prelude.{string_bytes}
use Rattle.ig_grammar.specs.Symbol.{gathered}
use Rattle.ig_grammar.specs.Alternative.{gathered_alternatives}
use Rattle.ig_grammar.specs.View.{symbol_of}
use Rattle.ig_show.specs.Steps.{Left}
use Rattle.ig_w3c.specs.Text.{symbols_text, alternatives_text}
use Rattle.ig_w3c.proofs.symbols.+symbols.Given as goal

abbrev pub invariant-push_symbols-loop-symbol : goal.invariant-push_symbols-loop-symbol
invariant-push_symbols-loop-symbol l =
    Left (string_bytes l.fn.out) (string_bytes l.out) (symbols_text [] (gathered l.fn.symbols))
    (symbols_text (if l.is_first then [] else 32 ∷ []) (gathered (map symbol_of (drop l.symbol-index l.items))))

abbrev pub invariant-push_alternatives-loop-alternative : goal.invariant-push_alternatives-loop-alternative
invariant-push_alternatives-loop-alternative l =
    Left (string_bytes l.fn.out) (string_bytes l.out) (alternatives_text [] (gathered_alternatives l.fn.alternatives))
    (alternatives_text (if l.is_first then [] else 32 ∷ 124 ∷ 32 ∷ []) (gathered_alternatives (drop l.alternative-index l.items)))
