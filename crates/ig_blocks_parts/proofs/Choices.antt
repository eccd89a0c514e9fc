-- Symbols and alternatives as they are stored, and as they are gathered.
use Rattle.std.proofs.Common.{◌≡◌, List, [], ◌∷◌, map, ap, ap₂, refl}
use Rattle.ig_grammar.specs.Symbol.{Symbol, Symbols, no_symbols, next_symbol, listed, gathered, next_alternative}
use Rattle.ig_grammar.specs.Alternative.{gathered_alternatives}
use Rattle.ig_grammar.specs.declared.symbol.Alt.{Alt}
use Rattle.ig_grammar.specs.Gathered.{gathered_listed}
use Rattle.ig_blocks_parts.specs.Setting.{Setting, Pair}
use Rattle.ig_blocks_parts.specs.Body.{sequence_of, choices_of}
use Rattle.ig_blocks_parts.specs.Blocks.{symbols_by, alternative_by}
use Rattle.ig_blocks_parts.specs.Laws.{AllAreGathered}

pub gathered_by : (s : Setting) (p : Pair) (xs : List Symbol) → gathered (symbols_by s p xs) ≡ sequence_of s p (gathered xs)
gathered_by s p xs = gathered_listed (sequence_of s p (gathered xs))

pub choices_by : (s : Setting) (p : Pair) (alts : List Alt) → gathered_alternatives (map (alternative_by s p) alts) ≡ choices_of s p (gathered_alternatives alts)
choices_by s p [] = refl
choices_by s p (a ∷ alts) = ap₂ next_alternative (gathered_by s p a.symbols) (choices_by s p alts)

pub all_are_gathered : AllAreGathered
all_are_gathered s p = record { symbols = gathered_by s p; choices = choices_by s p }
