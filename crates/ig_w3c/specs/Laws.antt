-- Laws of reading texts in the notation of the XML recommendation.
use Rattle.std.specs.Prelude.{◌≡◌, ℕ, suc, List, IsUtf8}
use Rattle.ig_notation_syntax.specs.Notation.{most_bytes}
use Rattle.ig_grammar.specs.Regular.{IsRegular}
use Rattle.ig_grammar.specs.Counts.{HasFewerThan}
use Rattle.ig_grammar.specs.declared.grammar.Grammar.{Grammar}
use Rattle.ig_notation_syntax.specs.Names.{HasNames}
use Rattle.ig_notation.specs.Outcome.{HasFormsOfText}
use Rattle.ig_notation.specs.declared.fault.ReadFault.{ReadFault}
use Rattle.ig_notation.specs.declared.fault.ReadFault.TheVariants as faults
use Rattle.ig_w3c_syntax.specs.Notation.{HasReading}
use Rattle.ig_w3c.specs.Outcome.{IsRead, IsReadFault}

-- a text reads as one grammar at most
abbrev pub OneReading : Type 0
OneReading = (source : List ℕ) (g h : Grammar) → IsRead source g → IsRead source h → g ≡ h

-- a text that is read has no other fault than want of memory
abbrev pub ReadOrRefused : Type 0
ReadOrRefused =
    (source : List ℕ) (g : Grammar) (fault : ReadFault) → IsRead source g → IsReadFault source fault → fault ≡ faults.Memory

-- a grammar that is read is regular, and has no more declarations, levels, alternatives and symbols than a text may have
-- bytes
abbrev pub ReadGrammarsAreRegular : Type 0
ReadGrammarsAreRegular =
    (source : List ℕ) (g : Grammar) → IsUtf8 source → IsRead source g → IsRegular g × HasFewerThan (suc most_bytes) g

-- each name in a grammar that is read is a name of the notation
abbrev pub ReadNamesAreNames : Type 0
ReadNamesAreNames = (source : List ℕ) (g : Grammar) → IsRead source g → HasNames g

-- in a grammar that is read stands neither a sequence nor an entry, and no declaration is plain
abbrev pub ReadGrammarsAreWritten : Type 0
ReadGrammarsAreWritten = (source : List ℕ) (g : Grammar) → IsRead source g → HasFormsOfText g

-- a grammar that is read has a reading, as its printing asks
abbrev pub ReadGrammarsHaveReadings : Type 0
ReadGrammarsHaveReadings = (source : List ℕ) (g : Grammar) → IsUtf8 source → IsRead source g → HasReading g
