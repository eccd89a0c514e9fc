-- What is gathered of a list of symbols and listed again is the list. This stands here with its proofs, for what speaks of both
-- forms; nothing of it has to be believed.
use Rattle.std.proofs.Common.{◌≡◌, List, [], ◌∷◌, refl, ap}
use Rattle.ig_grammar.specs.Symbol.{Symbol, Symbols, no_symbols, next_symbol, gathered, listed}

pub listed_gathered : (xs : List Symbol) → listed (gathered xs) ≡ xs
listed_gathered [] = refl
listed_gathered (x ∷ xs) = ap (λ ys. x ∷ ys) (listed_gathered xs)

pub gathered_listed : (xs : Symbols) → gathered (listed xs) ≡ xs
gathered_listed no_symbols = refl
gathered_listed (next_symbol x xs) = ap (next_symbol x) (gathered_listed xs)
