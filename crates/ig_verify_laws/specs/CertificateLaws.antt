-- What forests are as certificates, for a grammar that is accepted.
use Rattle.std.specs.Prelude.{◌≡◌, ℕ, ◌<◌, List, length, Option, Some, None, MatchOption}
use Rattle.ig_text.specs.Input.{Input, KeepsLimits}
use Rattle.ig_text.specs.Limits.{numbers_end}
use Rattle.ig_text.specs.Tree.{Tree}
use Rattle.ig_command.specs.declared.command.Notation.{Notation}
use Rattle.ig_grammar.specs.Numbering.{as_written}
use Rattle.ig_grammar.specs.declared.grammar.Grammar.{Grammar}
use Rattle.ig_meaning.specs.Permitted.{Permitted}
use Rattle.ig_item.specs.WellKinded.{IsWellKinded}
use Rattle.ig_item.specs.declared.core_grammar.Nonterminal.{Nonterminal}
use Rattle.ig_core.specs.Lowered.{CoreOf}
use Rattle.ig_core.specs.Notation.{unchanged}
use Rattle.ig_forest_tables.specs.Forest.{Forest, IsForest}
use Rattle.ig_forest_tables.specs.Unfold.{Unfolds}
use Rattle.ig_forest.specs.Reduced.{IsReduced}
use Rattle.ig_show_texts.specs.ForestText.{forest_text}
use Rattle.ig_command_sources.specs.Accepted.{IsAccepted, IsTextOf}
use Rattle.ig_verify.specs.Flaws.{IsFirstFlaw}
use Rattle.ig_verify.specs.Sound.{IsSound}
use Rattle.ig_verify.specs.declared.flaw.Flaw.{Flaw}
use Rattle.ig_forest_reader.specs.Written.{IsDraftOf, TellsNames}

-- what is read of bytes with the names and tags of a core grammar: a draft whose text they are, or that there is none
abbrev pub Reads : List Nonterminal → List ℕ → Option Forest → Type 0
Reads core bytes None = (f : Forest) → IsDraftOf core f → bytes ≡ forest_text f → ⊥
Reads core bytes (Some f) = IsDraftOf core f × (bytes ≡ forest_text f)

-- what is told of a forest by its rules: that all hold, or the first broken one
abbrev pub Verifies : List Nonterminal → Input → Forest → Option Flaw → Type 0
Verifies core text f flaw = MatchOption flaw (IsSound core text f) (IsFirstFlaw core text f)

-- the text of the forest is read as that forest, and nothing else, and the forest is verified
pub record IsCertified (core : List Nonterminal) (text : Input) (f : Forest) : Type 0 where
  pub told : TellsNames core
  pub draft : IsDraftOf core f
  pub sound : IsSound core text f
  pub read : (answer : Option Forest) → Reads core (forest_text f) answer → answer ≡ Some f
  pub verified : (flaw : Option Flaw) → Verifies core text f flaw → flaw ≡ None

-- what is printed of the core grammar of an accepted grammar tells its parts
abbrev pub ReadCoresTellNames : Type 0
ReadCoresTellNames = (n : Notation) (bytes : List ℕ) (g : Grammar) → IsAccepted n bytes g → TellsNames (CoreOf (unchanged g))

-- so it is with the reduced forest of an accepted grammar and an input, where it has few items
abbrev pub ReducedIsCertified : Type 0
ReducedIsCertified =
    (n : Notation) (bytes : List ℕ) (g : Grammar) (text : Input) (f : Forest) → IsAccepted n bytes g →
    IsWellKinded (CoreOf (unchanged g)) → KeepsLimits text →
    IsReduced (CoreOf (unchanged g)) text f → length f.items < numbers_end → IsCertified (CoreOf (unchanged g)) text f

-- each tree of a sound forest, at each depth, is one that the grammar permits
abbrev pub VerifiedIsPermitted : Type 0
VerifiedIsPermitted =
    (n : Notation) (bytes : List ℕ) (g : Grammar) (text : Input) (f : Forest) (d : ℕ) (t : Tree) → IsTextOf n bytes g →
    IsForest f → IsSound (CoreOf (unchanged g)) text f → Unfolds f d t → Permitted g (as_written g) text t
