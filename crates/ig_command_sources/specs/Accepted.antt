-- Which grammar texts are accepted.
use Rattle.std.specs.Prelude.{ℕ, ◌≤◌, List, IsUtf8}
use Rattle.ig_command.specs.declared.command.Notation.{Notation}
use Rattle.ig_command.specs.declared.command.Notation.TheVariants as notation
use Rattle.ig_grammar.specs.WellScoped.{IsWellScoped}
use Rattle.ig_grammar.specs.declared.grammar.Grammar.{Grammar}
use Rattle.ig_notation.specs.Outcome as own
use Rattle.ig_notation.specs.declared.fault.ReadFault.{ReadFault}
use Rattle.ig_w3c.specs.Outcome as w3c
use Rattle.ig_item.specs.Core.{dots}
use Rattle.ig_item.specs.Limits.{most_dots}
use Rattle.ig_core.specs.Lowered.{CoreOf}
use Rattle.ig_core.specs.Notation.{unchanged}

-- the bytes read as the grammar, in this notation
abbrev pub IsReadIn : Notation → List ℕ → Grammar → Type 0
IsReadIn notation.Own bytes g = own.IsRead bytes g
IsReadIn notation.W3c bytes g = w3c.IsRead bytes g

-- or this is why they don't
abbrev pub IsReadFaultIn : Notation → List ℕ → ReadFault → Type 0
IsReadFaultIn notation.Own bytes fault = own.IsReadFault bytes fault
IsReadFaultIn notation.W3c bytes fault = w3c.IsReadFault bytes fault

-- its core grammar has no more dots than one may have
abbrev pub HasFewDots : Grammar → Type 0
HasFewDots g = dots (CoreOf (unchanged g)) ≤ most_dots

-- the bytes are UTF-8 and read as the grammar, which is well scoped
pub record IsTextOf (n : Notation) (bytes : List ℕ) (g : Grammar) : Type 0 where
  pub utf8 : IsUtf8 bytes
  pub reading : IsReadIn n bytes g
  pub scoped : IsWellScoped g

-- and its core grammar has few dots
pub record IsAccepted (n : Notation) (bytes : List ℕ) (g : Grammar) : Type 0 where
  pub text : IsTextOf n bytes g
  pub few_dots : HasFewDots g
