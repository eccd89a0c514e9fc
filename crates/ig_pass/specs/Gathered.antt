-- Sequences and choices as the program has them: rewriting goes through what is gathered of a list. This stands here with its
-- proofs, for what the passes write; nothing of it has to be believed.
use Rattle.std.proofs.Common.{◌≡◌, ◌∙◌, List, [], ◌∷◌, map, refl, ap}
use Rattle.ig_grammar.specs.Alternative.{gathered_alternatives}
use Rattle.ig_grammar.specs.declared.symbol.Alt.{Alt}
use Rattle.ig_grammar.specs.Symbol.{Symbol, next_symbol, next_alternative, gathered}
use Rattle.ig_pass.specs.Rewriting.{rewritten, rewritten_symbols, rewritten_choices, rewritten_alternative}

module _ (own : Symbol → Symbol) where
  pub symbols_gathered : (xs : List Symbol) → gathered (map (rewritten own) xs) ≡ rewritten_symbols own (gathered xs)
  symbols_gathered [] = refl
  symbols_gathered (x ∷ xs) = ap (next_symbol (rewritten own x)) (symbols_gathered xs)

  pub choices_gathered : (xs : List Alt) → gathered_alternatives (map (rewritten_alternative own) xs) ≡ rewritten_choices own (gathered_alternatives xs)
  choices_gathered [] = refl
  choices_gathered (a ∷ others) =
      ap (λ z. next_alternative z (gathered_alternatives (map (rewritten_alternative own) others))) (symbols_gathered a.symbols) ∙
      ap (next_alternative (rewritten_symbols own (gathered a.symbols))) (choices_gathered others)
