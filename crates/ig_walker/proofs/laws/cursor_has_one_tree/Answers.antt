use Rattle.ig_walker.proofs.Flatness.{parts_one}
use Rattle.ig_walker.proofs.Trees.{one_tree}
use Rattle.ig_walker.proofs.laws.cursor_has_one_tree.Goals as goal

pub returns : goal.returns
returns c = λ f d cs t u a b. parts_one t u (one_tree f f.root d cs t u a b)
