-- What a parser and an input, or a load, give: a text, or where the command stops.
use Rattle.std.specs.Prelude.{◌≡◌, ◌≢◌, ℕ, ◌<◌, List, [], Result, Ok, Err, Vec}
use Rattle.std.specs.declared.alloc.Global.{Global}
use Rattle.ig_text.specs.Input.{Input}
use Rattle.ig_grammar.specs.Checked.{CheckedGrammar}
use Rattle.ig_grammar.specs.declared.grammar.Grammar.{Grammar}
use Rattle.ig_item.specs.Core.{dots}
use Rattle.ig_item.specs.Limits.{most_dots}
use Rattle.ig_item.specs.declared.run_fault.RunFault.TheVariants.{Budget}
use Rattle.ig_core.specs.Lowered.{CoreOf}
use Rattle.ig_core.specs.Notation.{unchanged}
use Rattle.ig_forest_tables.specs.Forest.{Forest}
use Rattle.ig_parse.specs.Parses.{IsUnparsed, IsOver, HasForest}
use Rattle.ig_show_texts.specs.ForestText.{forest_text}
use Rattle.ig_show_trees.specs.declared.report.Report.{Report}
use Rattle.ig_show_trees.specs.ReportText.{IsPlace}
use Rattle.ig_load.specs.Summary.{Loads}
use Rattle.ig_load.specs.Line.{summary_text}
use Rattle.ig_load.specs.declared.summary.Summary.{Summary}
use Rattle.ig_command_endings.specs.Notes.{budget_note, grammar_note, no_parse_note}
use Rattle.ig_command_endings.specs.declared.stop.Stop.{Stop}
use Rattle.ig_command_endings.specs.declared.stop.Stop.TheVariants as halt
use Rattle.ig_command_endings.specs.declared.status.Status.{Status}
use Rattle.ig_command_endings.specs.declared.status.Status.TheVariants as status
use Rattle.ig_command_sources.specs.Accepted.{HasFewDots}
use Rattle.ig_command_sources.specs.Refusals.{dots_text}
use Rattle.ig_command_jobs.specs.Jobs.{Job}
use Rattle.ig_command_jobs.specs.Finishes.{IsNoParseNote, Finishes}

-- the parser of a grammar with few dots
abbrev pub IsPrepared : Grammar → CheckedGrammar → Type 0
IsPrepared g parser = (parser ≡ unchanged g) × HasFewDots g

-- or too many dots
abbrev pub Prepares : Grammar → Result CheckedGrammar Stop → Type 0
Prepares g (Ok parser) = IsPrepared g parser
Prepares g (Err (halt.Note s line)) =
    (s ≡ status.Grammar) × (line.items ≡ grammar_note dots_text) × (most_dots < dots (CoreOf (unchanged g)))
Prepares g (Err halt.Memory) = Unit {0}

-- no tree is permitted: the line has the place of the report
abbrev pub TellsPlace : Report → Stop → Type 0
TellsPlace report (halt.Note s line) =
    (s ≡ status.NoParse) × ((place : List ℕ) × IsPlace report place × (line.items ≡ no_parse_note place))
TellsPlace report halt.Memory = Unit {0}

-- the text of the forest
abbrev pub ShowsForest : Forest → Result (Vec ℕ Global) Stop → Type 0
ShowsForest f (Ok text) = text.items ≡ forest_text f
ShowsForest f (Err (halt.Note s line)) = ⊥
ShowsForest f (Err halt.Memory) = Unit {0}

-- what comes of a job, by the forest
abbrev pub FinishesJob : CheckedGrammar → Input → Forest → Job → Result (Vec ℕ Global) Stop → Type 0
FinishesJob c input f job (Ok text) = Finishes c input f job status.Done text.items []
FinishesJob c input f job (Err (halt.Note s line)) = Finishes c input f job s [] line.items × (s ≢ status.Done)
FinishesJob c input f job (Err halt.Memory) = Unit {0}

-- that, and the forest is that of the permitted trees
pub record IsParse (c : CheckedGrammar) (input : Input) (budget : ℕ) (job : Job) (s : Status) (out note : List ℕ) :
    Type 0 where
  pub forest : Forest
  pub is : HasForest c input budget forest
  pub finishes : Finishes c input forest job s out note

-- why there is no text
pub data StopsParse (c : CheckedGrammar) (input : Input) (budget : ℕ) (job : Job) : Status → List ℕ → Type 0 where
  over_budget : (s : Status) (note : List ℕ) → IsOver c input budget → s ≡ status.Budget →
      note ≡ budget_note budget → StopsParse c input budget job s note
  no_parse : (s : Status) (note : List ℕ) → (IsOver c input budget → ⊥) → IsUnparsed c input → s ≡ status.NoParse →
      IsNoParseNote c input note → StopsParse c input budget job s note
  at_job : (s : Status) (note : List ℕ) → IsParse c input budget job s [] note → s ≢ status.Done →
      StopsParse c input budget job s note

abbrev pub ParsesText : CheckedGrammar → Input → ℕ → Job → Result (Vec ℕ Global) Stop → Type 0
ParsesText c input budget job (Ok text) = IsParse c input budget job status.Done text.items []
ParsesText c input budget job (Err (halt.Note s line)) = StopsParse c input budget job s line.items
ParsesText c input budget job (Err halt.Memory) = Unit {0}

-- the summary of a load, or that more items are reachable than the budget allows
abbrev pub LoadsText : ℕ → ℕ → ℕ → Result (Vec ℕ Global) Stop → Type 0
LoadsText size number budget (Ok text) =
    (summary : Summary) × Loads size number budget (Ok summary) × (text.items ≡ summary_text summary)
LoadsText size number budget (Err (halt.Note s line)) =
    Loads size number budget (Err Budget) × (s ≡ status.Budget) × (line.items ≡ budget_note budget)
LoadsText size number budget (Err halt.Memory) = Unit {0}
