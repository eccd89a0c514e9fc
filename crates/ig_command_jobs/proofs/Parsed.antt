-- What a parser's answer comes to as a text.
use Rattle.std.proofs.Common.{◌≡◌, ◌↔◌, ℕ, List, Contains, Result, Ok, Err, Vec, Global, [], ◌<◌, ◌≤◌, sym, subst, subst₂, ◌∙◌}
use Rattle.ig_text.specs.Input.{Input}
use Rattle.ig_grammar.specs.Checked.{CheckedGrammar}
use Rattle.ig_grammar.specs.declared.grammar.Grammar.{Grammar}
use Rattle.ig_forest_tables.specs.Forest.{Forest}
use Rattle.ig_item.specs.Core.{dots}
use Rattle.ig_item.specs.Limits.{most_dots}
use Rattle.ig_core.specs.Lowered.{CoreOf}
use Rattle.ig_core.specs.Notation.{unchanged}
use Rattle.ig_item.specs.Items.{Item, Reachable}
use Rattle.ig_item.specs.Recorded.{IsRecorded, Recording}
use Rattle.ig_item.specs.Tables.{items_of}
use Rattle.ig_item.specs.WellKinded.{IsWellKinded}
use Rattle.ig_item.specs.declared.core_grammar.Nonterminal.{Nonterminal}
use Rattle.ig_forest.specs.Reduced.{IsReduced}
use Rattle.ig_forest_tables.specs.Unfold.{IsTrim}
use Rattle.ig_forest.specs.TreeLaws.{TagsNameNonterminals, CursorsAreShort}
use Rattle.ig_parse.specs.Parses.{AreReachable, IsOver, IsUnparsed, IsForestOf, HasForest}
use Rattle.ig_query.specs.Report.{IsReport}
use Rattle.ig_show_trees.specs.declared.report.Report.{Report}
use Rattle.ig_command_sources.specs.Refusals.{dots_text}
use Rattle.ig_command_endings.specs.declared.stop.Stop.{Stop}
use Rattle.ig_command_endings.specs.declared.stop.Stop.TheVariants as halt
use Rattle.ig_command_endings.specs.declared.status.Status.TheVariants as status
use Rattle.ig_command_jobs.specs.Jobs.{Job, print, list, ask}
use Rattle.ig_command_jobs.specs.Finishes.{Finishes, printed}
use Rattle.ig_command_answers.specs.Pages.{IsPrintable}
use Rattle.ig_command_jobs.specs.Pages.{ComesOf}
use Rattle.ig_command_endings.specs.Stops.{IsOverBudget, RefusesWith}
use Rattle.ig_command_jobs.specs.Texts.{ShowsForest, FinishesJob, ParsesText, over_budget, no_parse, at_job, TellsPlace, Prepares}
use Rattle.ig_command_jobs.proofs.Answering.{Laws, finishes_question}
use Rattle.ig_command_jobs.proofs.Listings.{finishes_listing}

-- what comes of the job is said of permitted trees
module _ (laws : Laws) (c : CheckedGrammar) (input : Input) (f : Forest) (is : IsForestOf c input f) (trim : IsTrim f)
    (well : IsWellKinded (CoreOf c)) (as_it_is : c ≡ unchanged c.grammar) where
  prints : (r : Result (Vec ℕ Global) Stop) → ShowsForest f r → FinishesJob c input f print r
  prints (Ok text) h =
      subst (λ (z : List ℕ). Finishes c input f print status.Done z []) (sym h) printed
  prints (Err (halt.Note s line)) h = absurd h
  prints (Err halt.Memory) h = tt

  pub finishes_job : (job : Job) (r : Result (Vec ℕ Global) Stop) → ComesOf c input f job r →
      FinishesJob c input f job r
  finishes_job print r h = prints r h
  finishes_job (list listing) r h = finishes_listing c input f is (laws.heights f) (laws.unbounded c input f is) listing r h
  finishes_job (ask question) r h = finishes_question laws c input f is trim well as_it_is question r h

-- the trees of the forest and their cursors can be printed
pub printable : (core : List Nonterminal) (c : CheckedGrammar) (input : Input) (f : Forest) → core ≡ CoreOf c →
    IsWellKinded core → IsReduced (CoreOf c) input f → TagsNameNonterminals → CursorsAreShort f → IsPrintable core f
printable core c input f e well reduced tags short =
    let P : List Nonterminal → Type 0 = λ z. IsReduced z input f in
    let same : IsReduced core input f = subst P (sym e) reduced in
    record {
      named = λ d cs t u. tags core input f d cs t well same u;
      short = λ d cs t u. short core input same d cs t u;
    }

-- the items that were recorded of the core grammar and the input are the reachable ones
pub recorded_reachable : (c : CheckedGrammar) (input : Input) (r : Recording) → r.core ≡ CoreOf c → r.text ≡ input → IsRecorded r →
    AreReachable c input r.tables
recorded_reachable c input r core text is =
    subst₂ (λ k t. (x : Item) → Contains (items_of r.tables) x ↔ Reachable k t x) core text is.reachable

module _ (c : CheckedGrammar) (input : Input) (budget : ℕ) (job : Job) where
  pub parses_forest : (f : Forest) (r : Result (Vec ℕ Global) Stop) → HasForest c input budget f → FinishesJob c input f job r →
      ParsesText c input budget job r
  parses_forest f (Ok text) has h = record { forest = f; is = has; finishes = h }
  parses_forest f (Err (halt.Note s line)) has h =
      at_job s line.items (record { forest = f; is = has; finishes = h.0 }) h.1
  parses_forest f (Err halt.Memory) has h = tt

  pub parses_over_budget : (stop : Stop) → IsOver c input budget → IsOverBudget budget stop → ParsesText c input budget job (Err stop)
  parses_over_budget (halt.Note s line) more h = over_budget s line.items more h.0 h.1
  parses_over_budget halt.Memory more h = tt

  pub parses_none : (report : Report) (stop : Stop) → (IsOver c input budget → ⊥) → IsUnparsed c input →
      IsReport (CoreOf c) input report → TellsPlace report stop → ParsesText c input budget job (Err stop)
  parses_none report (halt.Note s line) few none is h =
      no_parse s line.items few none h.0
      (record { report = report; place = h.1.0; is = is; place_is = h.1.1; note_is = h.1.2 })
  parses_none report halt.Memory few none is h = tt

-- a parser of a grammar as it is written was made, or its core grammar has too many dots
module _ (g : Grammar) (c : CheckedGrammar) (same : c ≡ unchanged g) where
  pub prepares_some : (parser : CheckedGrammar) → parser ≡ c → dots (CoreOf c) ≤ most_dots → Prepares g (Ok parser)
  prepares_some parser is few =
      let P : CheckedGrammar → Type 0 = λ z. dots (CoreOf z) ≤ most_dots in (is ∙ same, subst P same few)

  pub prepares_none : (stop : Stop) → most_dots < dots (CoreOf c) → RefusesWith dots_text stop → Prepares g (Err stop)
  prepares_none (halt.Note s line) more h =
      let P : CheckedGrammar → Type 0 = λ z. most_dots < dots (CoreOf z) in (h.0, h.1, subst P same more)
  prepares_none halt.Memory more h = tt
