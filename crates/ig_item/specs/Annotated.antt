-- The values that the alternatives of a core grammar bind, and which tree with values a tree is, whatever is tested.
use Rattle.std.specs.Prelude.{◌≡◌, ℕ, List, [], ◌∷◌, ◌++◌, map, length, drop, Option, Some}
use Rattle.ig_text.specs.Input.{Input}
use Rattle.ig_text.specs.Tree as plain
use Rattle.ig_text.specs.declared.pattern.Pattern.{Pattern}
use Rattle.ig_expr.specs.Expression.{Expression}
use Rattle.ig_expr.specs.Evaluation.{value_of}
use Rattle.ig_expr.specs.ValuedTree.{Tree, Trees, Leaf, Node, none, more, bare_tree}
use Rattle.ig_expr.specs.declared.value.Value.{Value}
use Rattle.ig_item.specs.Step.{Step, Test, Bind, Term, Call, labels}
use Rattle.ig_item.specs.Core.{IsAlternative}
use Rattle.ig_item.specs.Items.{span_of}
use Rattle.ig_item.specs.declared.core_grammar.Nonterminal.{Nonterminal}
use Rattle.ig_item.specs.declared.core_grammar.CoreAlt.{CoreAlt}

module _ (core : List Nonterminal) (text : Input) where
  mutual
    -- where these names have these values, the steps have these trees from i to j, whose nodes have the values that are
    -- bound there, and leave these values, each step those of the one before and its own behind them
    pub data Leaves : List (List ℕ) → List Value → List Step → ℕ → ℕ → Trees → List Value → Type 0 where
      done : (names : List (List ℕ)) (env : List Value) (i : ℕ) → Leaves names env [] i i none env
      test : (names : List (List ℕ)) (env : List Value) (e : Expression) (others : List Step) (i j : ℕ) (ts : Trees)
          (after : List Value) → Leaves names env others i j ts after → Leaves names env (Test e ∷ others) i j ts after
      bind : (names : List (List ℕ)) (env : List Value) (name : List ℕ) (e : Expression) (v : Value) (others : List Step)
          (i j : ℕ) (ts : Trees) (after : List Value) → value_of text names env i e ≡ Some v →
          Leaves (names ++ name ∷ []) (env ++ v ∷ []) others i j ts after →
          Leaves names env (Bind name e ∷ others) i j ts after
      terminal : (names : List (List ℕ)) (env : List Value) (what : Pattern) (label : Option (List ℕ))
          (excluded : List Pattern) (others : List Step) (i h j : ℕ) (ts us : Trees) (after : List Value) →
          Leaves (names ++ labels label) (env ++ span_of label i h) others h j ts after → us ≡ more (Leaf i h) ts →
          Leaves names env (Term what label excluded ∷ others) i j us after
      -- the alternative inside a call binds values of its own
      call : (names : List (List ℕ)) (env : List Value) (callee : ℕ) (arguments : List Expression)
          (label : Option (List ℕ)) (excluded : List Pattern) (vs : List Value) (others : List Step) (i h j : ℕ) (t : Tree)
          (ts us : Trees) (after : List Value) → map (value_of text names env i) arguments ≡ map Some vs →
          Within callee vs i h t → Leaves (names ++ labels label) (env ++ span_of label i h) others h j ts after →
          us ≡ more t ts → Leaves names env (Call callee arguments label excluded ∷ others) i j us after

    -- the node of the nonterminal of this number, given its arguments' values: it has what the steps of its alternative
    -- bind behind the parameters
    pub data Within : ℕ → List Value → ℕ → ℕ → Tree → Type 0 where
      node : (n a : ℕ) (vs : List Value) (nonterminal : Nonterminal) (alternative : CoreAlt) (i j : ℕ) (ts : Trees)
          (after : List Value) (t : Tree) → IsAlternative core n a nonterminal alternative →
          Leaves nonterminal.params vs alternative.steps i j ts after →
          t ≡ Node alternative.tag (drop (length vs) after) i j ts → Within n vs i j t

  -- the tree u is the tree t of the root over the whole text, with the values that each of its alternatives binds
  pub record Annotates (t : plain.Tree) (u : Tree) : Type 0 where
    pub within : Within 0 [] 0 (length text.characters) u
    pub same : bare_tree u ≡ t
