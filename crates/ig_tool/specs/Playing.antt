-- What jobs ask and give that were loaded.
use Rattle.std.specs.Prelude.{◌≡◌, ℕ, List, Some, slice_get}
use Rattle.std.specs.List.{AllZip}
use Rattle.ig_grammar.specs.Checked.{CheckedGrammar}
use Rattle.ig_core.specs.Lowered.{IsBuildable, IsNumbered}
use Rattle.ig_core.specs.Notation.{unchanged}
use Rattle.ig_command_jobs.specs.Question.{Question, Ends, refused, parses}
use Rattle.ig_tool.specs.Text.{End, batch_text}
use Rattle.ig_tool.specs.declared.loading.Loaded.{Loaded}
use Rattle.ig_tool.specs.declared.loading.Loaded.TheVariants as loaded

-- a grammar of which a parser can be made, as it is written
pub record IsParsable (c : CheckedGrammar) : Type 0 where
  pub as_it_is : c ≡ unchanged c.grammar
  pub buildable : IsBuildable c
  pub numbered : IsNumbered c

-- there is a grammar in the place that the job names
abbrev pub IsPlaced : List CheckedGrammar → Loaded → Type 0
IsPlaced grammars (loaded.Accepted at input) = (c : CheckedGrammar) × (slice_get grammars at ≡ Some c)
IsPlaced grammars (loaded.Refused s note) = Unit {0}

-- what a job asks, whose grammar is in its place among these
abbrev pub Asks : List CheckedGrammar → ℕ → Loaded → Question → Type 0
Asks grammars budget (loaded.Accepted at input) question =
    (c : CheckedGrammar) × (slice_get grammars at ≡ Some c) × (question ≡ parses c.grammar input budget)
Asks grammars budget (loaded.Refused s note) question = question ≡ refused s note.items

-- what comes of the question
abbrev pub EndsAs : Question → End → Type 0
EndsAs question end = Ends question end.status end.out end.note

-- what comes of the job
abbrev pub GivesEnd : List CheckedGrammar → ℕ → Loaded → End → Type 0
GivesEnd grammars budget job end = (question : Question) × Asks grammars budget job question × EndsAs question end

-- the text of the ends of all jobs
abbrev pub PlaysOut : List CheckedGrammar → ℕ → List Loaded → List ℕ → Type 0
PlaysOut grammars budget jobs text =
    (ends : List End) × AllZip (GivesEnd grammars budget) jobs ends × (text ≡ batch_text 1 ends)

-- the text of what comes of questions
abbrev pub TellsEnds : List Question → List ℕ → Type 0
TellsEnds questions text = (ends : List End) × AllZip EndsAs questions ends × (text ≡ batch_text 1 ends)
