-- What the views of a forest show.
use Rattle.ig_forest_tables.specs.Forest as parts
use Rattle.ig_forest_tables.specs.declared.views.Node as view
use Rattle.ig_forest_tables.specs.declared.views.ItemNode as item_view

abbrev pub node_view : view.Node → parts.Node
node_view v =
    record {
      name = v.name.now;
      nonterminal = v.nonterminal;
      values = v.values.now;
      span = v.span;
      alternatives = v.alternatives.now;
    }

abbrev pub item_node_view : item_view.ItemNode → parts.ItemNode
item_node_view v =
    record {
      name = v.name.now;
      nonterminal = v.nonterminal;
      values = v.values.now;
      start = v.start;
      alternative = v.alternative;
      dot = v.dot;
      env = v.env.now;
      position = v.position;
      entries = v.entries.now;
    }
