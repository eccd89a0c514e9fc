-- What makes a forest of what was read, part by part; who reads the contract of the reader need not read this file.
use Rattle.std.specs.Prelude.{◌≡◌, ℕ, ◌<◌, List, [], ◌∷◌, length, All, Some, slice_get}
use Rattle.ig_forest_tables.specs.Forest.{Forest, Node, ItemNode, EntryFits}
use Rattle.ig_forest_tables.specs.declared.entry.Choice.{Choice}
use Rattle.ig_forest_tables.specs.declared.entry.Entry.{Entry}
use Rattle.ig_forest_tables.specs.declared.entry.Entry.TheVariants.{Begin}

-- each alternative is of one of so many items
abbrev pub ChoicesThere : ℕ → List Choice → Type 0
ChoicesThere items choices = All (λ choice. choice.item < items) choices

-- at dot 0 there is a `Begin` alone
abbrev pub BeginsAlone : ℕ → List Entry → Type 0
BeginsAlone dot entries = dot ≡ 0 → entries ≡ Begin ∷ []

-- the entries of an item fit its dot
pub record ItemFits (f : Forest) (it : ItemNode) : Type 0 where
  pub begin : BeginsAlone it.dot it.entries
  pub entries : All (EntryFits f it.dot) it.entries

-- so it is of all nodes, and of all items, with smaller numbers
abbrev pub NodesFitBelow : Forest → ℕ → Type 0
NodesFitBelow f n =
    (v : ℕ) (node : Node) → v < n → slice_get f.nodes v ≡ Some node → ChoicesThere (length f.items) node.alternatives

abbrev pub ItemsFitBelow : Forest → ℕ → Type 0
ItemsFitBelow f n = (k : ℕ) (it : ItemNode) → k < n → slice_get f.items k ≡ Some it → ItemFits f it

-- and of all
abbrev pub NodesFit : Forest → Type 0
NodesFit f = (v : ℕ) (node : Node) → slice_get f.nodes v ≡ Some node → ChoicesThere (length f.items) node.alternatives

abbrev pub ItemsFit : Forest → Type 0
ItemsFit f = (k : ℕ) (it : ItemNode) → slice_get f.items k ≡ Some it → ItemFits f it
