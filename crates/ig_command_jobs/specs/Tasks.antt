-- What out gets of a grammar.
use Rattle.std.specs.Prelude.{◌≡◌, ℕ, List, ◌++◌, Result, Ok, Err, Vec, codes, encode_utf8_all}
use Rattle.std.specs.declared.alloc.Global.{Global}
use Rattle.ig_text.specs.Lines.{line_end}
use Rattle.ig_analyse.specs.Told.{AreFactsOf}
use Rattle.ig_analyse.specs.declared.facts.Fact.{Fact}
use Rattle.ig_show_texts.specs.FactsText.{facts_text}
use Rattle.ig_grammar.specs.Checked.{CheckedGrammar}
use Rattle.ig_grammar.specs.declared.grammar.Grammar.{Grammar}
use Rattle.ig_core.specs.Lowered.{CoreOf}
use Rattle.ig_core.specs.Notation.{unchanged}
use Rattle.ig_show_texts.specs.CoreText.{core_text}
use Rattle.ig_show.specs.CanonicalText.{text_of}
use Rattle.ig_w3c_syntax.specs.Notation.{HasReading}
use Rattle.ig_w3c.specs.Text.{grammar_text}
use Rattle.ig_command.specs.declared.command.Notation.{Notation}
use Rattle.ig_command.specs.declared.command.Notation.TheVariants as notation
use Rattle.ig_command_jobs.specs.declared.job.Task.{Task}
use Rattle.ig_command_jobs.specs.declared.job.Task.TheVariants as task
use Rattle.ig_command_endings.specs.declared.stop.Stop.{Stop}
use Rattle.ig_command_endings.specs.declared.stop.Stop.TheVariants as halt

abbrev pub ok_text : List ℕ
ok_text = codes "ok" ++ line_end

-- the text of the grammar in a notation
abbrev pub shown_text : Notation → Grammar → List ℕ
shown_text notation.Own g = encode_utf8_all (text_of g)
shown_text notation.W3c g = encode_utf8_all (grammar_text g)

-- the notation can say the grammar
abbrev pub IsSayable : Notation → Grammar → Type 0
IsSayable notation.Own g = Unit {0}
IsSayable notation.W3c g = HasReading g

abbrev pub shown_core : Grammar → List ℕ
shown_core g = core_text (CoreOf (unchanged g))

-- the text of facts of which each is said exactly where it holds of a nonterminal of the core grammar
pub record AreFactsText (c : CheckedGrammar) (text : List ℕ) : Type 0 where
  pub facts : List Fact
  pub are : AreFactsOf (CoreOf c) facts
  pub text_is : text ≡ facts_text c.grammar.decls facts

-- what out gets of a grammar that was read in a notation, by the task
pub data GrammarText (g : Grammar) (n : Notation) : Task → List ℕ → Type 0 where
  accepted : GrammarText g n task.Check ok_text
  shown : GrammarText g n task.Show (shown_text n g)
  core_shown : GrammarText g n task.Core (shown_core g)
  analysed : (text : List ℕ) → AreFactsText (unchanged g) text → GrammarText g n task.Analyse text

-- what comes of a task with a grammar
abbrev pub DoesTask : Grammar → Notation → Task → Result (Vec ℕ Global) Stop → Type 0
DoesTask g n t (Ok text) = GrammarText g n t text.items
DoesTask g n t (Err (halt.Note s line)) = ⊥
DoesTask g n t (Err halt.Memory) = Unit {0}

-- the text of the grammar in a notation
abbrev pub ShowsGrammar : Notation → Grammar → Result (Vec ℕ Global) Stop → Type 0
ShowsGrammar n g (Ok text) = text.items ≡ shown_text n g
ShowsGrammar n g (Err (halt.Note s line)) = ⊥
ShowsGrammar n g (Err halt.Memory) = Unit {0}

-- the text that says that a grammar is accepted
abbrev pub SaysOk : Result (Vec ℕ Global) Stop → Type 0
SaysOk (Ok text) = text.items ≡ ok_text
SaysOk (Err (halt.Note s line)) = ⊥
SaysOk (Err halt.Memory) = Unit {0}

-- the text of the core grammar
abbrev pub ShowsCore : CheckedGrammar → Result (Vec ℕ Global) Stop → Type 0
ShowsCore c (Ok text) = text.items ≡ core_text (CoreOf c)
ShowsCore c (Err (halt.Note s line)) = ⊥
ShowsCore c (Err halt.Memory) = Unit {0}

-- the text of its facts
abbrev pub SaysFacts : CheckedGrammar → Result (Vec ℕ Global) Stop → Type 0
SaysFacts c (Ok text) = AreFactsText c text.items
SaysFacts c (Err (halt.Note s line)) = ⊥
SaysFacts c (Err halt.Memory) = Unit {0}
