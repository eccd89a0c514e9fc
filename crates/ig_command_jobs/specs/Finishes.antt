-- What comes of a job, by the forest of the trees that are permitted.
use Rattle.std.specs.Prelude.{◌≡◌, ◌≢◌, ◌↔◌, ℕ, List, [], Bool, IsTrue, Option, Some, None}
use Rattle.ig_text.specs.Input.{Input}
use Rattle.ig_text.specs.Tree.{Tree}
use Rattle.ig_text.specs.declared.text.Span.{Span}
use Rattle.ig_grammar.specs.Checked.{CheckedGrammar}
use Rattle.ig_core.specs.Lowered.{CoreOf}
use Rattle.ig_forest_tables.specs.Forest.{Forest}
use Rattle.ig_walker.specs.Listed.{Listed}
use Rattle.ig_query.specs.Ambiguity.{AreAmbiguous}
use Rattle.ig_query.specs.Report.{IsReport}
use Rattle.ig_parse.specs.Laws.{HasNoHighest, PermitsTwo}
use Rattle.ig_show_trees.specs.declared.report.Report.{Report}
use Rattle.ig_show_trees.specs.ReportText.{IsPlace}
use Rattle.ig_show_texts.specs.ForestText.{forest_text}
use Rattle.ig_show_trees.specs.QueryText.{ambiguous_text, cyclic_text, spans_text, IsFurthestLine}
use Rattle.ig_command.specs.Commands as asked
use Rattle.ig_command.specs.Commands.{Listing}
use Rattle.ig_command_answers.specs.Questions.{IsWanted, ArePermittedSpans}
use Rattle.ig_command_answers.specs.Lines.{listing_text}
use Rattle.ig_command_endings.specs.Notes.{depth_needed_note, no_cursor_note, no_parse_note}
use Rattle.ig_command_endings.specs.declared.status.Status.{Status}
use Rattle.ig_command_endings.specs.declared.status.Status.TheVariants as status
use Rattle.ig_command_jobs.specs.Jobs.{Job, print, list, ask}
use Rattle.ig_command_jobs.specs.Listing.{IsBounded, IsNoCursor, Begins, IsTreeListing}

-- the note of how far the items came in the input, and of what was expected there
pub record IsNoParseNote (c : CheckedGrammar) (input : Input) (note : List ℕ) : Type 0 where
  pub report : Report
  pub place : List ℕ
  pub is : IsReport (CoreOf c) input report
  pub place_is : IsPlace report place
  pub note_is : note ≡ no_parse_note place

-- what comes of a job, by the forest of the trees that are permitted: the status, out's text and notes' line
pub data Finishes (c : CheckedGrammar) (input : Input) (f : Forest) : Job → Status → List ℕ → List ℕ → Type 0 where
  -- the text of the forest
  printed : Finishes c input f print status.Done (forest_text f) []
  -- trees of each height are wanted, and there is no highest one
  depth_needed : (listing : Listing) → listing.depth ≡ None → HasNoHighest c input →
      Finishes c input f (list listing) status.DepthNeeded [] depth_needed_note
  -- the cursor is that of no tree that may be listed
  bad_cursor : (listing : Listing) (word : List ℕ) → IsBounded c input listing.depth → listing.after ≡ Some word →
      IsNoCursor c input f listing.depth word → Finishes c input f (list listing) status.BadCursor [] no_cursor_note
  -- the text of the listing
  listed : (listing : Listing) (last : Option Tree) (trees : List Listed) → IsBounded c input listing.depth →
      Begins c input f listing.depth listing.after last →
      IsTreeListing c input f listing.depth last listing.count trees →
      Finishes c input f (list listing) status.Done (listing_text (CoreOf c) trees) []
  -- the lines of the ambiguous nodes: there are some exactly where two different trees are permitted
  told_ambiguous : (nodes : List ℕ) → AreAmbiguous f nodes → (nodes ≢ []) ↔ PermitsTwo c input →
      Finishes c input f (ask asked.ambiguous) status.Done (ambiguous_text f nodes) []
  -- whether for each number a higher tree is permitted
  told_cyclic : (answer : Bool) → IsTrue answer ↔ HasNoHighest c input →
      Finishes c input f (ask asked.cyclic) status.Done (cyclic_text answer) []
  -- the spans of the declaration that is named, or of the start symbol
  told_spans : (given : Option (List ℕ)) (name : List ℕ) (found : List Span) → IsWanted c given name →
      ArePermittedSpans c.grammar input name found → Finishes c input f (ask (asked.spans given)) status.Done (spans_text found) []
  -- how far the items came in the input, and what was expected there
  told_report : (report : Report) (line : List ℕ) → IsReport (CoreOf c) input report → IsFurthestLine report line →
      Finishes c input f (ask asked.report) status.Done line []
