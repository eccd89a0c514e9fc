use Rattle.ig_forest.proofs.TreeTags.{tags_name_nonterminals}
use Rattle.ig_forest.proofs.tree_laws.tags_name_nonterminals.Goals as goal

pub returns : goal.returns
returns c = tags_name_nonterminals c.reduced_forest_unfolds_to_core_trees.ensures
