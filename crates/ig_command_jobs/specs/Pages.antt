-- What comes of a job by the forest.
use Rattle.std.specs.Prelude.{◌≡◌, ℕ, List, Result, Ok, Err, Vec}
use Rattle.std.specs.declared.alloc.Global.{Global}
use Rattle.ig_text.specs.Input.{Input}
use Rattle.ig_grammar.specs.Checked.{CheckedGrammar}
use Rattle.ig_item.specs.declared.core_grammar.Nonterminal.{Nonterminal}
use Rattle.ig_core.specs.Lowered.{CoreOf}
use Rattle.ig_forest_tables.specs.Forest.{Forest}
use Rattle.ig_command.specs.Commands.{Listing, Question}
use Rattle.ig_command_answers.specs.Questions.{Tells}
use Rattle.ig_command_answers.specs.Pages.{IsDepthFor, NeedsDepth, IsLost, IsListed}
use Rattle.ig_command_endings.specs.Notes.{depth_needed_note, no_cursor_note}
use Rattle.ig_command_endings.specs.declared.stop.Stop.{Stop}
use Rattle.ig_command_endings.specs.declared.stop.Stop.TheVariants as halt
use Rattle.ig_command_endings.specs.declared.status.Status.{Status}
use Rattle.ig_command_endings.specs.declared.status.Status.TheVariants as status
use Rattle.ig_command_jobs.specs.Jobs.{Job, print, list, ask}
use Rattle.ig_command_jobs.specs.Texts.{ShowsForest}

-- why there is no text of a listing
pub data StopsListing (f : Forest) (listing : Listing) : Status → List ℕ → Type 0 where
  needs_depth : (s : Status) (note : List ℕ) → NeedsDepth f listing.depth → s ≡ status.DepthNeeded →
      note ≡ depth_needed_note → StopsListing f listing s note
  lost : (s : Status) (note : List ℕ) (d : ℕ) → IsDepthFor f listing.depth d → IsLost f d listing.after →
      s ≡ status.BadCursor → note ≡ no_cursor_note → StopsListing f listing s note

-- the text of a listing, or why there is none
abbrev pub ListsPage : List Nonterminal → Forest → Listing → Result (Vec ℕ Global) Stop → Type 0
ListsPage core f listing (Ok text) = IsListed core f listing text.items
ListsPage core f listing (Err (halt.Note s line)) = StopsListing f listing s line.items
ListsPage core f listing (Err halt.Memory) = Unit {0}

-- the text of the answer to a question
abbrev pub GivesAnswer : CheckedGrammar → Input → Forest → Question → Result (Vec ℕ Global) Stop → Type 0
GivesAnswer c input f question (Ok text) = Tells c input f question text.items
GivesAnswer c input f question (Err (halt.Note s line)) = ⊥
GivesAnswer c input f question (Err halt.Memory) = Unit {0}

-- what comes of a job by the forest, or by the grammar and the input where the report is asked for
abbrev pub ComesOf : CheckedGrammar → Input → Forest → Job → Result (Vec ℕ Global) Stop → Type 0
ComesOf c input f print r = ShowsForest f r
ComesOf c input f (list listing) r = ListsPage (CoreOf c) f listing r
ComesOf c input f (ask question) r = GivesAnswer c input f question r
