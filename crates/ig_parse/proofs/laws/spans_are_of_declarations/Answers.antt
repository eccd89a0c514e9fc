use Rattle.ig_parse.proofs.Declared.{spans_of_declarations}
use Rattle.ig_parse.proofs.laws.spans_are_of_declarations.Goals as goal

pub returns : goal.returns
returns c =
    spans_of_declarations
    (record {
      numbers = c.declarations_keep_numbers.ensures;
      nodes = c.nodes_are_those_of_trees.ensures;
      trim = c.reduced_forest_is_trim.ensures;
      spans = c.spans_are_permitted.ensures;
    })
