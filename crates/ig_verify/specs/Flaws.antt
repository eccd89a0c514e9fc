-- Which rule is the first broken one: the nodes come first, then rule 3 of all items, then the other rules of each item.
use Rattle.std.specs.Prelude.{◌≡◌, ℕ, ◌<◌, List, Some, slice_get, true, false}
use Rattle.ig_text.specs.Input.{Input}
use Rattle.ig_item.specs.declared.core_grammar.Nonterminal.{Nonterminal}
use Rattle.ig_forest_tables.specs.Forest.{Forest, Node, ItemNode}
use Rattle.ig_verify.specs.Sound.{IsWhole, ChoicesFit, ItemFits, IsFirst, EntriesFollow, NodeHolds, EntriesHold}
use Rattle.ig_verify.specs.declared.flaw.Flaw.{Flaw}

module _ (core : List Nonterminal) (text : Input) (f : Forest) where
  -- of the rules of a node, this one is the first broken one
  pub data NodeBreaks (v : ℕ) (node : Node) : ℕ → Type 0 where
    root : (rule : ℕ) → v ≡ f.root → (IsWhole text node → ⊥) → rule ≡ 1 → NodeBreaks v node rule
    choices : (rule : ℕ) → (v ≡ f.root → IsWhole text node) → (ChoicesFit core f node → ⊥) → rule ≡ 2 →
        NodeBreaks v node rule

  -- of the rules of an item's entries, this one is the first broken one
  pub data EntriesBreak (it : ItemNode) : ℕ → Type 0 where
    begin : (rule : ℕ) → it.dot ≡ 0 → (IsFirst it → ⊥) → rule ≡ 4 → EntriesBreak it rule
    further : (rule : ℕ) → (it.dot ≡ 0 → ⊥) → (EntriesFollow core text f it → ⊥) → rule ≡ 5 → EntriesBreak it rule

  -- the rules hold at all nodes with smaller numbers, and so on
  abbrev pub NodesHoldBelow : ℕ → Type 0
  NodesHoldBelow n = (v : ℕ) (node : Node) → v < n → slice_get f.nodes v ≡ Some node → NodeHolds core text f v node

  abbrev pub ItemsFitBelow : ℕ → Type 0
  ItemsFitBelow n = (k : ℕ) (it : ItemNode) → k < n → slice_get f.items k ≡ Some it → ItemFits core text it

  abbrev pub EntriesHoldBelow : ℕ → Type 0
  EntriesHoldBelow n = (k : ℕ) (it : ItemNode) → k < n → slice_get f.items k ≡ Some it → EntriesHold core text f it

  abbrev pub NodesHold : Type 0
  NodesHold = (v : ℕ) (node : Node) → slice_get f.nodes v ≡ Some node → NodeHolds core text f v node

  abbrev pub ItemsFit : Type 0
  ItemsFit = (k : ℕ) (it : ItemNode) → slice_get f.items k ≡ Some it → ItemFits core text it

  abbrev pub AllEntriesHold : Type 0
  AllEntriesHold = (k : ℕ) (it : ItemNode) → slice_get f.items k ≡ Some it → EntriesHold core text f it

  -- the first broken rule is one of a node
  pub record BreaksAtNode (flaw : Flaw) : Type 0 where
    pub node : Node
    pub there : slice_get f.nodes flaw.number ≡ Some node
    pub of_node : flaw.item ≡ false
    pub before : NodesHoldBelow flaw.number
    pub breaks : NodeBreaks flaw.number node flaw.rule

  -- of the items, this one is the first that breaks rule 3
  pub record BreaksAtItem (flaw : Flaw) : Type 0 where
    pub it : ItemNode
    pub there : slice_get f.items flaw.number ≡ Some it
    pub of_item : flaw.item ≡ true
    pub before : ItemsFitBelow flaw.number
    pub breaks : ItemFits core text it → ⊥
    pub third : flaw.rule ≡ 3

  -- of the items, this one is the first that breaks rule 4 or 5
  pub record BreaksAtEntries (flaw : Flaw) : Type 0 where
    pub it : ItemNode
    pub there : slice_get f.items flaw.number ≡ Some it
    pub of_item : flaw.item ≡ true
    pub before : EntriesHoldBelow flaw.number
    pub breaks : EntriesBreak it flaw.rule

  pub data IsFirstFlaw (flaw : Flaw) : Type 0 where
    at_node : BreaksAtNode flaw → IsFirstFlaw flaw
    at_item : NodesHold → BreaksAtItem flaw → IsFirstFlaw flaw
    at_entries : NodesHold → ItemsFit → BreaksAtEntries flaw → IsFirstFlaw flaw
