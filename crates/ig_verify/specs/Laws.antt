-- What sound drafts unfold to.
use Rattle.std.specs.Prelude.{◌≡◌, ℕ, List, Some, slice_get}
use Rattle.ig_text.specs.Input.{Input}
use Rattle.ig_text.specs.Tree.{Tree}
use Rattle.ig_item.specs.CoreTrees.{CoreTree, HasTree}
use Rattle.ig_item.specs.declared.core_grammar.Nonterminal.{Nonterminal}
use Rattle.ig_forest_tables.specs.Forest.{Forest, Node, IsForest}
use Rattle.ig_forest_tables.specs.Unfold.{OfNode, Unfolds}
use Rattle.ig_verify.specs.Sound.{IsSound}

-- each tree of a sound forest, at each depth, is a tree of the core grammar for the text
abbrev pub SoundUnfoldsToCoreTrees : Type 0
SoundUnfoldsToCoreTrees =
    (core : List Nonterminal) (text : Input) (f : Forest) (d : ℕ) (t : Tree) → IsForest f → IsSound core text f →
    Unfolds f d t → CoreTree core text t

-- and each tree of a node is a tree of the node's instance over its span
abbrev pub SoundNodesUnfold : Type 0
SoundNodesUnfold =
    (core : List Nonterminal) (text : Input) (f : Forest) (v d : ℕ) (cs : List ℕ) (t : Tree) (node : Node) → IsForest f →
    IsSound core text f → OfNode f v d cs t → slice_get f.nodes v ≡ Some node →
    HasTree core text node.nonterminal node.values node.span.begin node.span.end t
