use Rattle.ig_parse.proofs.Parsing.{runs_of, runs_recorded, may_have_forest}
use Rattle.ig_parse.proofs.parser.Parser.forest.Goals as goal

pub returns : goal.returns
returns c =
    may_have_forest
    (record {
      trees = c.core_trees_are_permitted_trees.ensures;
      roots = c.complete_root_items_are_trees.ensures;
      there = c.reduced_forest_has_root.ensures;
      unfolds = c.reduced_forest_unfolds_to_core_trees.ensures;
      only = c.reduced_forest_is_unique.ensures;
      cursors = c.tree_has_one_cursor.ensures;
      in_order = c.cursors_are_ordered_as_trees.ensures;
      tags = c.tags_rise_in_cores.ensures;
      annotated = c.derivations_are_annotated.ensures;
      values = c.values_are_those_of_core.ensures;
    })
    c.args.self.now c.args.recorded.now.text c.args.recorded.now.core
    (runs_recorded c.args.self.now c.self.inside.core c.args.recorded.now.core
    (runs_of c.args.self.now c.self.inside.grammar.now c.self.inside.core c.self.view_is c.self.invariant
    c.nonterminals-nonterminals.ensures.well_kinded) c.requires.own) c.of_recorded.result c.of_recorded.ensures
