-- What a load says: how many items and nodes there are, and whether the forest is ambiguous or cyclic.
use Rattle.std.specs.Prelude.{◌≡◌, ◌↔◌, ℕ, List, length, Contains, IsTrue, Result, Ok, Err}
use Rattle.ig_text.specs.Input.{Input, untabbed}
use Rattle.ig_grammar.specs.Checked.{CheckedGrammar}
use Rattle.ig_item.specs.Items.{Item, Reachable}
use Rattle.ig_item.specs.WellKinded.{NoneTwice}
use Rattle.ig_item.specs.declared.run_fault.RunFault.{RunFault}
use Rattle.ig_item.specs.declared.run_fault.RunFault.TheVariants.{Budget, Memory}
use Rattle.ig_core.specs.Lowered.{CoreOf}
use Rattle.ig_core.specs.Notation.{unchanged}
use Rattle.ig_forest_tables.specs.Forest.{Forest}
use Rattle.ig_parse.specs.Laws.{HasNoHighest, PermitsTwo}
use Rattle.ig_parse.specs.Parses.{IsForestOf, IsOver}
use Rattle.ig_load.specs.Grammar.{LoadGrammar}
use Rattle.ig_load.specs.Input.{LoadInput}
use Rattle.ig_load.specs.declared.summary.Summary.{Summary}

module _ (c : CheckedGrammar) (text : Input) where
  -- so many items are reachable
  pub record HasItems (count : ℕ) : Type 0 where
    pub items : List Item
    pub reachable : (x : Item) → Contains items x ↔ Reachable (CoreOf c) text x
    pub once : NoneTwice items
    pub counted : count ≡ length items

  -- the forest of the permitted trees has so many nodes
  pub record HasNodes (count : ℕ) : Type 0 where
    pub forest : Forest
    pub is : IsForestOf c text forest
    pub counted : count ≡ length forest.nodes

  -- the numbers of items and nodes; whether two trees are permitted; whether there is no highest one
  pub record IsSummaryOf (summary : Summary) : Type 0 where
    pub items : HasItems summary.items
    pub nodes : HasNodes summary.nodes
    pub ambiguous : IsTrue summary.ambiguous ↔ PermitsTwo c text
    pub cyclic : IsTrue summary.cyclic ↔ HasNoHighest c text

-- what is said of the load of this size and number
abbrev pub IsLoadSummary : ℕ → ℕ → Summary → Type 0
IsLoadSummary size number summary = IsSummaryOf (unchanged LoadGrammar) (untabbed (LoadInput size number)) summary

module _ (size number budget : ℕ) where
  -- more items are reachable than the budget allows
  abbrev pub IsTooLarge : Type 0
  IsTooLarge = IsOver (unchanged LoadGrammar) (untabbed (LoadInput size number)) budget

  -- what a load of this size and number says; want of memory may come at any time
  abbrev pub Loads : Result Summary RunFault → Type 0
  Loads (Ok summary) = (IsTooLarge → ⊥) × IsLoadSummary size number summary
  Loads (Err Budget) = IsTooLarge
  Loads (Err Memory) = Unit {0}
