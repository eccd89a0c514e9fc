-- What comes of the text of a forest, by the grammar and the input of which it is to be one.
use Rattle.std.specs.Prelude.{◌≡◌, ◌≢◌, ℕ, ◌<◌, ◌≤◌, List, [], ◌++◌, length, Result, Ok, Err, Vec, codes}
use Rattle.std.specs.declared.alloc.Global.{Global}
use Rattle.ig_text.specs.Input.{Input}
use Rattle.ig_text.specs.Lines.{line_end}
use Rattle.ig_text.specs.Limits.{numbers_end}
use Rattle.ig_text.specs.Tree.{Tree}
use Rattle.ig_grammar.specs.Checked.{CheckedGrammar}
use Rattle.ig_meaning.specs.Permitted.{Permitted}
use Rattle.ig_item.specs.declared.core_grammar.Nonterminal.{Nonterminal}
use Rattle.ig_core.specs.Lowered.{CoreOf}
use Rattle.ig_core.specs.Notation.{unchanged}
use Rattle.ig_forest_tables.specs.Forest.{Forest}
use Rattle.ig_forest_tables.specs.Unfold.{Unfolds}
use Rattle.ig_forest.specs.Reduced.{IsReduced}
use Rattle.ig_show_texts.specs.ForestText.{forest_text}
use Rattle.ig_verify.specs.Sound.{IsSound}
use Rattle.ig_verify.specs.Flaws.{IsFirstFlaw}
use Rattle.ig_verify.specs.declared.flaw.Flaw.{Flaw}
use Rattle.ig_forest_reader.specs.Written.{IsDraftOf}
use Rattle.ig_command_endings.specs.Notes.{long_forest_note, no_forest_note, not_sound_note}
use Rattle.ig_command_endings.specs.declared.status.Status.{Status}
use Rattle.ig_command_endings.specs.declared.status.Status.TheVariants as status
use Rattle.ig_command_endings.specs.declared.stop.Stop.{Stop}
use Rattle.ig_command_endings.specs.declared.stop.Stop.TheVariants as halt
use Rattle.ig_command.specs.declared.command.Notation.{Notation}
use Rattle.ig_command_sources.specs.Accepted.{IsAccepted}
use Rattle.ig_command_sources.specs.Sources.{most_forest_bytes}

-- the grammar is read from some bytes, accepted, and as it is written
pub record IsTaken (c : CheckedGrammar) : Type 0 where
  pub as_it_is : c ≡ unchanged c.grammar
  pub written : Notation
  pub bytes : List ℕ
  pub accepted : IsAccepted written bytes c.grammar

abbrev pub verified_text : List ℕ
verified_text = codes "verified" ++ line_end

-- the bytes are the text of that forest, whose names and tags are those of the core grammar
pub record IsForestText (c : CheckedGrammar) (xs : List ℕ) (f : Forest) : Type 0 where
  pub draft : IsDraftOf (CoreOf c) f
  pub text_is : xs ≡ forest_text f

-- each tree to which the forest unfolds, at every depth, is permitted
abbrev pub HasPermittedTrees : CheckedGrammar → Input → Forest → Type 0
HasPermittedTrees c input f = (d : ℕ) (t : Tree) → Unfolds f d t → Permitted c.grammar c.shapes input t

-- what comes of the text of a forest: the status, out's text and notes' line
pub data Verifies (c : CheckedGrammar) (input : Input) (xs : List ℕ) : Status → List ℕ → List ℕ → Type 0 where
  -- the text is too long
  too_long : most_forest_bytes < length xs → Verifies c input xs status.NotForest [] long_forest_note
  -- it is the text of no forest
  no_forest : length xs ≤ most_forest_bytes → ((f : Forest) → IsForestText c xs f → ⊥) →
      Verifies c input xs status.NotForest [] no_forest_note
  -- the forest breaks a rule, and this is the first one
  not_sound : (f : Forest) (flaw : Flaw) → length xs ≤ most_forest_bytes → IsForestText c xs f →
      IsFirstFlaw (CoreOf c) input f flaw →
      Verifies c input xs status.NotSound [] (not_sound_note flaw.item flaw.number flaw.rule)
  -- it breaks none, so it has permitted trees alone
  verified : (f : Forest) → length xs ≤ most_forest_bytes → IsForestText c xs f → IsSound (CoreOf c) input f →
      HasPermittedTrees c input f → Verifies c input xs status.Done verified_text []

-- the bytes are the text of the reduced forest of the grammar and the input, which has no more items than can be numbered
pub record IsReducedText (c : CheckedGrammar) (input : Input) (xs : List ℕ) : Type 0 where
  pub forest : Forest
  pub reduced : IsReduced (CoreOf c) input forest
  pub few_items : length forest.items < numbers_end
  pub text_is : xs ≡ forest_text forest

-- such a text, where it isn't too long, is that of a forest that breaks no rule
abbrev pub PassesReduced : CheckedGrammar → Input → List ℕ → Status → Type 0
PassesReduced c input xs s = length xs ≤ most_forest_bytes → IsReducedText c input xs → s ≡ status.Done

-- what comes of a text that isn't too long
abbrev pub VerifiesText : CheckedGrammar → Input → List ℕ → Result (Vec ℕ Global) Stop → Type 0
VerifiesText c input xs (Ok text) = Verifies c input xs status.Done text.items []
VerifiesText c input xs (Err (halt.Note s line)) =
    Verifies c input xs s [] line.items × (s ≢ status.Done) × (IsReducedText c input xs → ⊥)
VerifiesText c input xs (Err halt.Memory) = Unit {0}

-- what comes of the rules of a forest that was read
abbrev pub VerifiesDraft : List Nonterminal → Input → Forest → Result (Vec ℕ Global) Stop → Type 0
VerifiesDraft core input f (Ok text) = (text.items ≡ verified_text) × IsSound core input f
VerifiesDraft core input f (Err (halt.Note s line)) =
    (flaw : Flaw) × IsFirstFlaw core input f flaw × (s ≡ status.NotSound) ×
    (line.items ≡ not_sound_note flaw.item flaw.number flaw.rule)
VerifiesDraft core input f (Err halt.Memory) = Unit {0}

-- the line that says that a forest is sound
abbrev pub SaysVerified : Result (Vec ℕ Global) Stop → Type 0
SaysVerified (Ok text) = text.items ≡ verified_text
SaysVerified (Err (halt.Note s line)) = ⊥
SaysVerified (Err halt.Memory) = Unit {0}
