-- Two checked grammars that give the nodes of a permitted tree the same values.
use Rattle.std.specs.Prelude.{ℕ, List}
use Rattle.ig_text.specs.Input.{Input}
use Rattle.ig_text.specs.Tree as plain
use Rattle.ig_expr.specs.ValuedTree.{Tree}
use Rattle.ig_grammar.specs.Checked.{CheckedGrammar}
use Rattle.ig_meaning.specs.Annotated.{Annotates}
use Rattle.ig_meaning.specs.Permitted.{Permitted}

-- the values that the first grammar's alternatives bind in a tree which it permits are those that the second one's bind
pub record KeepsValues (a b : CheckedGrammar) : Type 0 where
  pub values : (text : Input) (t : plain.Tree) (u : Tree) → Permitted a.grammar a.shapes text t →
      Annotates a.grammar a.shapes text t u → Annotates b.grammar b.shapes text t u
