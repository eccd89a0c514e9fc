-- The integers of core grammars of grammars that are read.
use Rattle.std.specs.Prelude.{ℕ, List, IsUtf8}
use Rattle.ig_grammar.specs.declared.grammar.Grammar.{Grammar}
use Rattle.ig_core.specs.Lowered.{CoreOf}
use Rattle.ig_core.specs.Notation.{unchanged}
use Rattle.ig_notation.specs.Outcome.{IsRead}
use Rattle.ig_w3c.specs.Outcome as w3c
use Rattle.ig_verify_laws.specs.Ranges.{IntegersFit}

-- each integer in the core grammar of a grammar that is read in the notation of the XML recommendation fits 64 bits; it has none
-- but what passes add
abbrev pub W3cCoresHaveSmallIntegers : Type 0
W3cCoresHaveSmallIntegers =
    (bytes : List ℕ) (g : Grammar) → IsUtf8 bytes → w3c.IsRead bytes g → IntegersFit (CoreOf (unchanged g))

-- each integer in the core grammar of a grammar that is read fits 64 bits
abbrev pub ReadCoresHaveSmallIntegers : Type 0
ReadCoresHaveSmallIntegers =
    (bytes : List ℕ) (g : Grammar) → IsUtf8 bytes → IsRead bytes g → IntegersFit (CoreOf (unchanged g))
