use Rattle.ig_pass.proofs.RootKept.{root_keeps}
use Rattle.ig_pass.proofs.laws.root_keeps.Goals as goal

pub returns : goal.returns
returns c = root_keeps c.added_names_are_new.ensures c.rooted_is_the_same.ensures c.same_trees_is_an_equivalence.ensures
