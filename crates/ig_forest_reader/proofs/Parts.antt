-- A forest, part by part.
use Rattle.std.proofs.Common.{◌<◌, Contains, length}
use Rattle.std.proofs.lemmas.List.Elements.{All-contains, All-contains_itself, All-weaker}
use Rattle.ig_forest_tables.specs.Forest.{Forest, IsForest, EntryFits}
use Rattle.ig_forest_tables.specs.declared.entry.Choice.{Choice}
use Rattle.ig_forest_reader.specs.Checks.{ItemsFit, NodesFit}

pub forest_fits : (f : Forest) → f.root < length f.nodes → NodesFit f → ItemsFit f → IsForest f
forest_fits f root nodes items =
    record {
      root = root;
      alternatives = λ v node choice there has. All-contains (λ (c : Choice). c.item < length f.items) node.alternatives choice (nodes v node there) has;
      begin = λ k it there. (items k it there).begin;
      entries = λ k it e there has. All-contains (EntryFits f it.dot) it.entries e (items k it there).entries has;
    }

pub nodes_of_forest : (f : Forest) → IsForest f → NodesFit f
nodes_of_forest f is v node there =
    All-weaker (Contains node.alternatives) (λ (c : Choice). c.item < length f.items) (λ c has. is.alternatives v node c there has)
    node.alternatives (All-contains_itself node.alternatives)

pub items_of_forest : (f : Forest) → IsForest f → ItemsFit f
items_of_forest f is k it there =
    record {
      begin = is.begin k it there;
      entries = All-weaker (Contains it.entries) (EntryFits f it.dot) (λ e has. is.entries k it e there has) it.entries (All-contains_itself it.entries);
    }
