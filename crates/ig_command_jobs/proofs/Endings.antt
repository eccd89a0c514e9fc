-- What comes of a parse is what comes of its question.
use Rattle.std.proofs.Common.{◌≡◌, ◌≤◌, ℕ, List, [], sym, subst, arith, length}
use Rattle.std.proofs.lemmas.List.{length-map}
use Rattle.std.specs.Prelude.{Err}
use Rattle.ig_text.specs.Input.{Input}
use Rattle.ig_grammar.specs.Checked.{CheckedGrammar}
use Rattle.ig_core.specs.Lowered.{CoreOf}
use Rattle.ig_core.specs.Notation.{unchanged}
use Rattle.ig_item.specs.Items.{MoreThan, Reachable}
use Rattle.ig_item.specs.Recorded.{IsRecorded, Recording}
use Rattle.ig_item.specs.Tables.{item_of, items_of}
use Rattle.ig_item.specs.declared.core_grammar.Nonterminal.{Nonterminal}
use Rattle.ig_plain.specs.Laws.{BudgetsSuffice}
use Rattle.ig_parse.specs.Parses.{HasForest, IsOver, IsUnparsed}
use Rattle.ig_command_endings.specs.Stops.{IsOverBudget}
use Rattle.ig_command_endings.specs.declared.status.Status.{Status}
use Rattle.ig_command_endings.specs.declared.status.Status.TheVariants as status
use Rattle.ig_command_endings.specs.declared.stop.Stop.{Stop}
use Rattle.ig_command_endings.specs.declared.stop.Stop.TheVariants as halt
use Rattle.ig_command_jobs.specs.Jobs.{print}
use Rattle.ig_command_jobs.specs.Finishes.{Finishes, IsNoParseNote}
use Rattle.ig_command_jobs.specs.Outcome.{Outcome, over_budget, no_parse, parsed}
use Rattle.ig_command_jobs.specs.Texts as texts
use Rattle.ig_command_jobs.specs.Texts.{IsParse, ParsesText, StopsParse}

module _ (c : CheckedGrammar) (input : Input) (budget : ℕ) (as_it_is : c ≡ unchanged c.grammar) where
  by_forest : (s : Status) (out note : List ℕ) → IsParse c input budget print s out note →
      Outcome c.grammar input budget print s out note
  by_forest s out note p =
      parsed p.forest s out note (subst (λ (z : CheckedGrammar). HasForest z input budget p.forest) as_it_is p.is)
      (subst (λ (z : CheckedGrammar). Finishes z input p.forest print s out note) as_it_is p.finishes)

  by_stop : (s : Status) (line : List ℕ) → StopsParse c input budget print s line → Outcome c.grammar input budget print s [] line
  by_stop s line (texts.over_budget t note over is note_is) =
      subst (λ (z : Status). Outcome c.grammar input budget print z [] line) (sym is)
      (subst (λ (z : List ℕ). Outcome c.grammar input budget print status.Budget [] z) (sym note_is)
      (over_budget (subst (λ (z : CheckedGrammar). IsOver z input budget) as_it_is over)))
  by_stop s line (texts.no_parse t note few none is note_is) =
      subst (λ (z : Status). Outcome c.grammar input budget print z [] line) (sym is)
      (no_parse line (subst (λ (z : CheckedGrammar). IsOver z input budget → ⊥) as_it_is few)
      (subst (λ (z : CheckedGrammar). IsUnparsed z input) as_it_is none)
      (subst (λ (z : CheckedGrammar). IsNoParseNote z input line) as_it_is note_is))
  by_stop s line (texts.at_job t note p other) = by_forest s [] line p

  -- a text, beside which notes get nothing; or a line, beside which out gets nothing
  pub told_text : (text none : List ℕ) → none ≡ [] → IsParse c input budget print status.Done text [] →
      Outcome c.grammar input budget print status.Done text none
  told_text text none e p =
      subst (λ (z : List ℕ). Outcome c.grammar input budget print status.Done text z) (sym e) (by_forest status.Done text [] p)

  pub told_stop : (s : Status) (line none : List ℕ) → none ≡ [] → StopsParse c input budget print s line →
      Outcome c.grammar input budget print s none line
  told_stop s line none e p = subst (λ (z : List ℕ). Outcome c.grammar input budget print s z line) (sym e) (by_stop s line p)

-- more items are reachable than the budget allows
pub told_over : (c : CheckedGrammar) (input : Input) (budget : ℕ) (stop : Stop) → IsOver c input budget → IsOverBudget budget stop →
    ParsesText c input budget print (Err stop)
told_over c input budget (halt.Note s line) over h = texts.over_budget s line.items over h.0 h.1
told_over c input budget halt.Memory over h = tt

-- what was recorded has no more items than the budget, so that it suffices
module _ (suffice : BudgetsSuffice) (c : CheckedGrammar) (input : Input) (budget : ℕ) (r : Recording) (core : r.core ≡ CoreOf c)
    (text : r.text ≡ input) (recorded : IsRecorded r) (within : length r.tables.items ≤ budget) where
  here : MoreThan (CoreOf c) input budget → MoreThan r.core r.text (length (items_of r.tables))
  here m =
      let n = length-map r.tables.items (item_of r.tables) in let over = m.more in
      record {
        items = m.items;
        different = m.different;
        reachable = λ x i.
            subst (λ (z : List Nonterminal). Reachable z r.text x) (sym core)
            (subst (λ (z : Input). Reachable (CoreOf c) z x) (sym text) (m.reachable x i));
        more = omega (arith, n, over, within);
      }

  pub fits : IsOver c input budget → ⊥
  fits m = suffice r.core r.text (items_of r.tables) (λ x. (recorded.reachable x).1) (here m)
