-- Which texts are read, and why others aren't.
use Rattle.std.specs.Prelude.{◌≡◌, ◌≢◌, ℕ, suc, ◌<◌, ◌≤◌, List, All, Contains, length, map, chars, IsUtf8}
use Rattle.ig_notation_syntax.specs.Token.{Token}
use Rattle.ig_notation_syntax.specs.Rules.{FollowsRules}
use Rattle.ig_notation_syntax.specs.Lexing.{Lexes, Breaks}
use Rattle.ig_notation_syntax.specs.Notation.{most_bytes}
use Rattle.ig_notation_syntax.specs.Stops.{Stops}
use Rattle.ig_grammar.specs.Regular.{IsRegular, OfEachLevel}
use Rattle.ig_grammar.specs.Counts.{HasFewerThan}
use Rattle.ig_grammar.specs.Subterms.{subterms_of_alternatives}
use Rattle.ig_grammar.specs.Symbol.{Symbol, Seq, Entry}
use Rattle.ig_grammar.specs.declared.declaration.Decl.{Decl}
use Rattle.ig_grammar.specs.declared.declaration.DeclKind.TheVariants.{Plain}
use Rattle.ig_grammar.specs.declared.grammar.Grammar.{Grammar}
use Rattle.ig_notation_syntax.specs.RuleLaws.{AreOfGrammar}
use Rattle.ig_notation_syntax.specs.Names.{HasNames}
use Rattle.ig_notation_terms.specs.Limits.{NumbersFit, IsShallow, byte_of}
use Rattle.ig_notation_syntax.specs.declared.token.TokenFault.{TokenFault}
use Rattle.ig_notation_syntax.specs.declared.token.TokenFault.TheVariants.{Broken, Memory as OutOfMemory}
use Rattle.ig_notation_terms.specs.declared.fault.RuleFault.{RuleFault}
use Rattle.ig_notation_terms.specs.declared.fault.RuleFault.TheVariants.{Unexpected, Memory}
use Rattle.ig_notation.specs.declared.fault.ReadFault.{ReadFault}
use Rattle.ig_notation.specs.declared.fault.ReadFault.TheVariants as faults
use Rattle.ig_notation.specs.declared.fault.Large.{Large}
use Rattle.ig_notation.specs.declared.fault.Large.TheVariants as large

-- the tokens without their places
abbrev pub unplaced : List (Token × ℕ) → List Token
unplaced tokens = map (λ p. p.0) tokens

-- the text has at most so many bytes, and these tokens
pub record HasTokens (source : List ℕ) (tokens : List (Token × ℕ)) : Type 0 where
  pub bytes : length source ≤ most_bytes
  pub lexed : Lexes 0 (chars source) tokens

-- a text, by its bytes, reads as the grammar
pub record IsRead (source : List ℕ) (g : Grammar) : Type 0 where
  pub tokens : List (Token × ℕ)
  pub are_tokens : HasTokens source tokens
  pub numbers : NumbersFit (unplaced tokens)
  pub shallow : IsShallow (unplaced tokens)
  pub follows : FollowsRules (unplaced tokens) g

-- the fault of a text that isn't a sequence of tokens, and of one whose tokens don't follow the rules
abbrev pub fault_of : TokenFault → ReadFault
fault_of (Broken at) = faults.Syntax at
fault_of OutOfMemory = faults.Memory

abbrev pub refusal_of : ℕ → List (Token × ℕ) → RuleFault → ReadFault
refusal_of end tokens (Unexpected number) = faults.Syntax (byte_of end tokens number)
refusal_of end tokens Memory = faults.Memory

-- the limit that the tokens pass: that of numbers, or else that of brackets
pub data Passes (tokens : List Token) : Large → Type 0 where
  great_number : (NumbersFit tokens → ⊥) → Passes tokens large.Number
  many_brackets : NumbersFit tokens → (IsShallow tokens → ⊥) → Passes tokens large.Nesting

-- the tokens pass neither
pub record IsWithin (tokens : List Token) : Type 0 where
  pub numbers : NumbersFit tokens
  pub shallow : IsShallow tokens

-- why a text isn't read: the first of these tests that fails
pub data IsReadFault (source : List ℕ) : ReadFault → Type 0 where
  -- it has too many bytes
  too_many_bytes : most_bytes < length source → IsReadFault source (faults.TooLarge large.Bytes)
  -- behind some separators and tokens neither begins
  no_token : (at : ℕ) → length source ≤ most_bytes → Breaks 0 (chars source) at → IsReadFault source (faults.Syntax at)
  -- a number is too large
  large_number : (tokens : List (Token × ℕ)) → HasTokens source tokens → (NumbersFit (unplaced tokens) → ⊥) →
      IsReadFault source (faults.TooLarge large.Number)
  -- more than 64 brackets are open at one place
  deep : (tokens : List (Token × ℕ)) → HasTokens source tokens → NumbersFit (unplaced tokens) →
      (IsShallow (unplaced tokens) → ⊥) → IsReadFault source (faults.TooLarge large.Nesting)
  -- the tokens stop following the rules
  against_rules : (tokens : List (Token × ℕ)) (number at : ℕ) → HasTokens source tokens → NumbersFit (unplaced tokens) →
      IsShallow (unplaced tokens) → Stops AreOfGrammar (unplaced tokens) number → at ≡ byte_of (length source) tokens number →
      IsReadFault source (faults.Syntax at)
  -- want of memory may come at any time
  no_memory : IsReadFault source faults.Memory

-- a text reads as one grammar at most
abbrev pub OneReading : Type 0
OneReading = (source : List ℕ) (g h : Grammar) → IsRead source g → IsRead source h → g ≡ h

-- a text that is read has no other fault than want of memory
abbrev pub ReadOrRefused : Type 0
ReadOrRefused =
    (source : List ℕ) (g : Grammar) (fault : ReadFault) → IsRead source g → IsReadFault source fault → fault ≡ faults.Memory

-- a grammar that is read is regular, and has no more declarations, levels, alternatives and symbols than a text may have
-- bytes
abbrev pub ReadGrammarsAreRegular : Type 0
ReadGrammarsAreRegular =
    (source : List ℕ) (g : Grammar) → IsUtf8 source → IsRead source g → IsRegular g × HasFewerThan (suc most_bytes) g

-- each name in a grammar that is read is a name of the notation
abbrev pub ReadNamesAreNames : Type 0
ReadNamesAreNames = (source : List ℕ) (g : Grammar) → IsRead source g → HasNames g

-- the symbol is neither a sequence nor an entry, which come from passes alone
abbrev pub IsOfText : Symbol → Type 0
IsOfText (Seq xs) = ⊥
IsOfText (Entry bindings x) = ⊥
IsOfText x = Unit {0}

-- in a grammar that is read stands neither a sequence nor an entry, and no declaration is plain
pub record HasFormsOfText (g : Grammar) : Type 0 where
  pub within : OfEachLevel (λ choices. All IsOfText (subterms_of_alternatives choices)) g
  pub kinds : (decl : Decl) → Contains g.decls decl → decl.kind ≢ Plain

abbrev pub ReadGrammarsAreWritten : Type 0
ReadGrammarsAreWritten = (source : List ℕ) (g : Grammar) → IsRead source g → HasFormsOfText g

-- nor in any grammar that tokens read as
abbrev pub RulesHaveFormsOfText : Type 0
RulesHaveFormsOfText = (tokens : List Token) (g : Grammar) → FollowsRules tokens g → HasFormsOfText g
