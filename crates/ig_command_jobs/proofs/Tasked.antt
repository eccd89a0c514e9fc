-- What comes of a task with a parser's grammar.
use Rattle.std.proofs.Common.{◌≡◌, ℕ, List, Result, Ok, Err, Vec, Global, ap, sym, subst, ◌∙◌}
use Rattle.ig_grammar.specs.Checked.{CheckedGrammar}
use Rattle.ig_grammar.specs.declared.grammar.Grammar.{Grammar}
use Rattle.ig_core.specs.Lowered.{CoreOf}
use Rattle.ig_core.specs.Notation.{unchanged}
use Rattle.ig_show_texts.specs.CoreText.{core_text}
use Rattle.ig_command.specs.declared.command.Notation.{Notation}
use Rattle.ig_command_endings.specs.declared.stop.Stop.{Stop}
use Rattle.ig_command_endings.specs.declared.stop.Stop.TheVariants as halt
use Rattle.ig_command_jobs.specs.declared.job.Task.TheVariants as task
use Rattle.ig_command_jobs.specs.Tasks.{AreFactsText, DoesTask, GrammarText, SaysFacts, SaysOk, ShowsCore, ShowsGrammar, accepted, shown, core_shown, analysed}

module _ (g : Grammar) (n : Notation) where
  pub says_ok : (r : Result (Vec ℕ Global) Stop) → SaysOk r → DoesTask g n task.Check r
  says_ok (Ok text) h = let Q : List ℕ → Type 0 = GrammarText g n task.Check in subst Q (sym h) accepted
  says_ok (Err (halt.Note s line)) h = h
  says_ok (Err halt.Memory) h = h

  pub shows : (other : Grammar) (r : Result (Vec ℕ Global) Stop) → other ≡ g → ShowsGrammar n other r → DoesTask g n task.Show r
  shows other (Ok text) e h =
      let Q : Grammar → Type 0 = λ z. GrammarText z n task.Show text.items in
      let R : List ℕ → Type 0 = GrammarText other n task.Show in
      subst Q e (subst R (sym h) shown)
  shows other (Err (halt.Note s line)) e h = h
  shows other (Err halt.Memory) e h = h

  module _ (c : CheckedGrammar) (as_it_is : c ≡ unchanged g) where
    pub shows_core : (r : Result (Vec ℕ Global) Stop) → ShowsCore c r → DoesTask g n task.Core r
    shows_core (Ok text) h =
        let same = h ∙ ap (λ (z : CheckedGrammar). core_text (CoreOf z)) as_it_is in
        let Q : List ℕ → Type 0 = GrammarText g n task.Core in
        subst Q (sym same) core_shown
    shows_core (Err (halt.Note s line)) h = h
    shows_core (Err halt.Memory) h = h

    pub says_facts : (r : Result (Vec ℕ Global) Stop) → SaysFacts c r → DoesTask g n task.Analyse r
    says_facts (Ok text) h =
        let Q : CheckedGrammar → Type 0 = λ z. AreFactsText z text.items in
        analysed text.items (subst Q as_it_is h)
    says_facts (Err (halt.Note s line)) h = h
    says_facts (Err halt.Memory) h = h
