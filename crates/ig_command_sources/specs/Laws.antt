-- What holds of grammars that are read, in either notation.
use Rattle.std.specs.Prelude.{◌≡◌, ℕ, suc, List, IsUtf8}
use Rattle.ig_notation_syntax.specs.Notation.{most_bytes}
use Rattle.ig_command.specs.declared.command.Notation.{Notation}
use Rattle.ig_command.specs.declared.command.Notation.TheVariants as notation
use Rattle.ig_grammar.specs.Regular.{IsRegular}
use Rattle.ig_grammar.specs.Counts.{HasFewerThan}
use Rattle.ig_grammar.specs.declared.grammar.Grammar.{Grammar}
use Rattle.ig_notation_syntax.specs.Names.{HasNames}
use Rattle.ig_notation.specs.Outcome.{HasFormsOfText}
use Rattle.ig_notation.specs.declared.fault.ReadFault.{ReadFault}
use Rattle.ig_notation.specs.declared.fault.ReadFault.TheVariants as faults
use Rattle.ig_w3c_syntax.specs.Notation.{HasReading}
use Rattle.ig_core.specs.Laws.{AreRegular}
use Rattle.ig_core.specs.Lowered.{IsBuildable}
use Rattle.ig_core.specs.Notation.{unchanged}
use Rattle.ig_command_sources.specs.Accepted.{IsReadIn, IsReadFaultIn, IsTextOf}

-- a text reads as one grammar at most
abbrev pub OneReading : Type 0
OneReading = (n : Notation) (xs : List ℕ) (g h : Grammar) → IsReadIn n xs g → IsReadIn n xs h → g ≡ h

-- a text that is read has no other fault than want of memory
abbrev pub ReadOrRefused : Type 0
ReadOrRefused =
    (n : Notation) (xs : List ℕ) (g : Grammar) (fault : ReadFault) → IsReadIn n xs g → IsReadFaultIn n xs fault →
    fault ≡ faults.Memory

-- a grammar that is read is regular, and has no more declarations, levels, alternatives and symbols
-- than a text may have bytes
abbrev pub ReadGrammarsAreRegular : Type 0
ReadGrammarsAreRegular =
    (n : Notation) (xs : List ℕ) (g : Grammar) → IsUtf8 xs → IsReadIn n xs g → IsRegular g × HasFewerThan (suc most_bytes) g

-- each name in a grammar that is read is a name of the own notation
abbrev pub ReadNamesAreNames : Type 0
ReadNamesAreNames = (n : Notation) (xs : List ℕ) (g : Grammar) → IsReadIn n xs g → HasNames g

-- in a grammar that is read stands nothing that comes from passes alone
abbrev pub ReadGrammarsAreWritten : Type 0
ReadGrammarsAreWritten = (n : Notation) (xs : List ℕ) (g : Grammar) → IsReadIn n xs g → HasFormsOfText g

-- a grammar that is read from a text and well scoped can be built, as it is written
abbrev pub ReadGrammarsAreBuildable : Type 0
ReadGrammarsAreBuildable = (n : Notation) (xs : List ℕ) (g : Grammar) → IsTextOf n xs g → IsBuildable (unchanged g)

-- and each pass in turn leaves a regular grammar of it
abbrev pub ReadGrammarsStayRegular : Type 0
ReadGrammarsStayRegular = (n : Notation) (xs : List ℕ) (g : Grammar) → IsTextOf n xs g → AreRegular (unchanged g)

-- one that is read in the notation of the XML recommendation can be printed in it
abbrev pub ReadGrammarsHaveReadings : Type 0
ReadGrammarsHaveReadings = (xs : List ℕ) (g : Grammar) → IsTextOf notation.W3c xs g → HasReading g
