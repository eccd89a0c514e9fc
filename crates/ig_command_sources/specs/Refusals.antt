-- Why a grammar text isn't accepted.
use Rattle.std.specs.Prelude.{ℕ, ◌<◌, ◌≤◌, List, ◌++◌, length, IsUtf8, codes}
use Rattle.std.specs.Fmt.{decimal}
use Rattle.std.specs.Str.{IsValidUpTo}
use Rattle.ig_command.specs.declared.command.Notation.{Notation}
use Rattle.ig_notation_syntax.specs.Notation.{most_bytes}
use Rattle.ig_grammar.specs.Condition.{Condition}
use Rattle.ig_grammar.specs.WellScoped.{IsFirst}
use Rattle.ig_grammar.specs.declared.grammar.Grammar.{Grammar}
use Rattle.ig_grammar.specs.declared.place.Place.{Place}
use Rattle.ig_command_sources.specs.Texts.{condition_text, place_text}
use Rattle.ig_command_sources.specs.Accepted.{IsReadIn, IsReadFaultIn, IsTextOf}
use Rattle.ig_item.specs.Core.{dots}
use Rattle.ig_item.specs.Limits.{most_dots}
use Rattle.ig_core.specs.Lowered.{CoreOf}
use Rattle.ig_core.specs.Notation.{unchanged}
use Rattle.ig_notation.specs.declared.fault.Large.{Large}
use Rattle.ig_notation.specs.declared.fault.Large.TheVariants as large
use Rattle.ig_notation.specs.declared.fault.ReadFault.TheVariants as read

-- the text of a limit that is passed
abbrev pub large_text : Large → List ℕ
large_text large.Bytes = codes "too large: bytes"
large_text large.Number = codes "too large: number"
large_text large.Nesting = codes "too large: nesting"

abbrev pub dots_text : List ℕ
dots_text = codes "too many dots"

-- the first of these tests that the bytes fail as a grammar text in this notation, with the text that says so
pub data IsRefused (n : Notation) (bytes : List ℕ) : List ℕ → Type 0 where
  -- there are too many
  too_many : most_bytes < length bytes → IsRefused n bytes (large_text large.Bytes)
  -- they aren't UTF-8, and `at` is the length of their longest valid prefix
  not_utf8 : (at : ℕ) → length bytes ≤ most_bytes → (IsUtf8 bytes → ⊥) → IsValidUpTo bytes at →
      IsRefused n bytes (codes "not UTF-8 at byte " ++ decimal at)
  -- they are no sequence of tokens, or the tokens don't follow the rules
  not_grammar : (at : ℕ) → IsUtf8 bytes → IsReadFaultIn n bytes (read.Syntax at) →
      IsRefused n bytes (codes "syntax at byte " ++ decimal at)
  -- a number is too large, or too many brackets are open at one place
  too_large : (which : Large) → IsUtf8 bytes → IsReadFaultIn n bytes (read.TooLarge which) → IsRefused n bytes (large_text which)
  -- the grammar that they read as isn't well scoped, by this condition at this place
  not_scoped : (g : Grammar) (place : Place) (c : Condition) → IsUtf8 bytes → IsReadIn n bytes g → IsFirst g place c →
      IsRefused n bytes (condition_text c ++ place_text place)
  -- the core grammar of the grammar has too many dots
  too_many_dots : (g : Grammar) → IsTextOf n bytes g → most_dots < dots (CoreOf (unchanged g)) → IsRefused n bytes dots_text
