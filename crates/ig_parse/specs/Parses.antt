-- What parsing a text with a checked grammar gives: the main theorem.
use Rattle.std.specs.Prelude.{ℕ, ◌<◌, ◌≤◌, ◌↔◌, ◌≡◌, List, Contains, Option, None, Some, Result, Ok, Err}
use Rattle.ig_text.specs.Input.{Input}
use Rattle.ig_text.specs.Tree.{Tree, height}
use Rattle.ig_grammar.specs.Checked.{CheckedGrammar}
use Rattle.ig_meaning.specs.Order.{Precedes}
use Rattle.ig_meaning.specs.Permitted.{Permitted}
use Rattle.ig_item.specs.Core.{dots}
use Rattle.ig_item.specs.Items.{Item, MoreThan, Reachable}
use Rattle.ig_item.specs.Limits.{most_dots}
use Rattle.ig_item.specs.Recorded.{Recording}
use Rattle.ig_item.specs.Tables.{Tables, items_of}
use Rattle.ig_item.specs.WellKinded.{NoneTwice}
use Rattle.ig_item.specs.declared.run_fault.RunFault.{RunFault}
use Rattle.ig_item.specs.declared.run_fault.RunFault.TheVariants as run_fault
use Rattle.ig_core.specs.Lowered.{CoreOf}
use Rattle.ig_forest.specs.Cursors.{Less}
use Rattle.ig_forest_tables.specs.Forest.{Forest}
use Rattle.ig_forest_tables.specs.Unfold.{Unfold, Unfolds}
use Rattle.ig_forest.specs.Reduced.{IsReduced}
use Rattle.ig_query.specs.Report.{IsReport}
use Rattle.ig_parse.specs.declared.fault.ParseFault.{ParseFault}
use Rattle.ig_parse.specs.declared.fault.ParseFault.TheVariants.{TooManyDots, Budget, NoParse, Memory}

module _ (c : CheckedGrammar) (text : Input) where
  -- a tree is permitted
  abbrev pub IsParsed : Type 0
  IsParsed = (t : Tree) × Permitted c.grammar c.shapes text t

  -- no tree is permitted
  abbrev pub IsUnparsed : Type 0
  IsUnparsed = (t : Tree) → Permitted c.grammar c.shapes text t → ⊥

  -- the forest is the reduced one, which is one, and to every depth it has exactly the permitted trees of at most that
  -- height, each with one cursor, and cursors in the order of the permitted trees
  pub record IsForestOf (f : Forest) : Type 0 where
    pub reduced : IsReduced (CoreOf c) text f
    pub only : (other : Forest) → IsReduced (CoreOf c) text other → other ≡ f
    pub unfolds : (d : ℕ) (t : Tree) → Unfolds f d t ↔ (Permitted c.grammar c.shapes text t × (height t ≤ d))
    pub one_cursor : (d e : ℕ) (cs ds : List ℕ) (t : Tree) → Unfold f d cs t → Unfold f e ds t → cs ≡ ds
    pub in_order : (d e : ℕ) (cs ds : List ℕ) (t u : Tree) → Unfold f d cs t → Unfold f e ds u →
        Less cs ds ↔ Precedes c.grammar c.shapes text t u

  -- the items are the reachable ones
  abbrev pub AreReachable : Tables → Type 0
  AreReachable tables = (x : Item) → Contains (items_of tables) x ↔ Reachable (CoreOf c) text x

  -- the forest of the permitted trees, where there is one: it is there where a tree is permitted
  abbrev pub MayHaveForest : Option Forest → Type 0
  MayHaveForest None = IsUnparsed
  MayHaveForest (Some f) = IsParsed × IsForestOf f

  module _ (budget : ℕ) where
    -- more items are reachable than the budget allows
    abbrev pub IsOver : Type 0
    IsOver = MoreThan (CoreOf c) text budget

    -- the budget suffices, a tree is permitted, and the forest is that of the permitted trees
    pub record HasForest (f : Forest) : Type 0 where
      pub suffices : IsOver → ⊥
      pub parsed : IsParsed
      pub is : IsForestOf f

    -- the budget suffices, and what was recorded of the core grammar and the text are the reachable items, each once
    pub record HasItems (recording : Recording) : Type 0 where
      pub suffices : IsOver → ⊥
      pub core : recording.core ≡ CoreOf c
      pub text_is : recording.text ≡ text
      pub reachable : AreReachable recording.tables
      pub once : NoneTwice (items_of recording.tables)

    abbrev pub Finds : Result Recording RunFault → Type 0
    Finds (Ok recording) = HasItems recording
    Finds (Err run_fault.Budget) = IsOver
    Finds (Err run_fault.Memory) = Unit {0}

    -- why there is no forest: want of memory may come at any time
    abbrev pub HasNone : ParseFault → Type 0
    HasNone TooManyDots = most_dots < dots (CoreOf c)
    HasNone Budget = IsOver
    HasNone (NoParse report) = (IsOver → ⊥) × IsUnparsed × IsReport (CoreOf c) text report
    HasNone Memory = Unit {0}

    abbrev pub Parses : Result Forest ParseFault → Type 0
    Parses (Ok f) = HasForest f
    Parses (Err fault) = HasNone fault

-- the answer is that the core grammar has too many dots, or that memory ran out
abbrev pub IsTooMany : Result Forest ParseFault → Type 0
IsTooMany (Err TooManyDots) = Unit {0}
IsTooMany (Err Memory) = Unit {0}
IsTooMany answer = ⊥
