-- What holds of printed texts.
use Rattle.std.specs.Prelude.{ℕ, List}
use Rattle.ig_grammar.specs.declared.grammar.Grammar.{Grammar}
use Rattle.ig_w3c_syntax.specs.Notation.{Reads, HasCharacters}
use Rattle.ig_w3c.specs.Text.{grammar_text}

-- where some text of characters reads as a grammar, its printed text does too
abbrev pub PrintedTextReadsBack : Type 0
PrintedTextReadsBack = (s : List ℕ) (g : Grammar) → HasCharacters s → Reads s g → Reads (grammar_text g) g
