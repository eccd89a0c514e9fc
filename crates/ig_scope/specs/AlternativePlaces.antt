-- The numbers of places have 32 bits.
use Rattle.std.specs.Prelude.{ℕ, ◌+◌, ◌<◌, List, Contains, length}
use Rattle.ig_text.specs.Limits.{numbers_end}
use Rattle.ig_grammar.specs.Numbering.{alternatives}
use Rattle.ig_grammar.specs.Visible.{Occurrence}
use Rattle.ig_grammar.specs.Condition.{symbols_of}
use Rattle.ig_grammar.specs.declared.symbol.Alt.{Alt}
use Rattle.ig_grammar.specs.declared.declaration.Decl.{Decl}

-- the alternatives of a declaration have such numbers
abbrev pub HaveNumberedAlternatives : Decl → Type 0
HaveNumberedAlternatives decl = length (alternatives decl.levels) < numbers_end

-- so have the symbols of each
abbrev pub HaveNumberedSymbols : Decl → Type 0
HaveNumberedSymbols decl =
    (a : Alt) → Contains (alternatives decl.levels) a → length (symbols_of decl a) < numbers_end

-- so have these symbols, of which so many stand before them
abbrev pub HaveNumbers : ℕ → List Occurrence → Type 0
HaveNumbers before os = before + length os < numbers_end
