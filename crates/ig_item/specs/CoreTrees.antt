-- The trees of a core grammar: its meaning without items.
use Rattle.std.specs.Prelude.{◌≡◌, ℕ, List, [], ◌∷◌, ◌++◌, map, Option, Some, length, true}
use Rattle.ig_text.specs.Input.{Input}
use Rattle.ig_text.specs.Tree.{Tree, Trees, Leaf, Node, none, more}
use Rattle.ig_text.specs.Pattern.{Matches}
use Rattle.ig_text.specs.declared.pattern.Pattern.{Pattern}
use Rattle.ig_expr.specs.Expression.{Expression}
use Rattle.ig_expr.specs.Evaluation.{value_of}
use Rattle.ig_expr.specs.declared.value.Value.{Value}
use Rattle.ig_expr.specs.declared.value.Value.TheVariants.{Bool}
use Rattle.ig_item.specs.Step.{Step, Test, Bind, Term, Call, labels}
use Rattle.ig_item.specs.Core.{IsAlternative}
use Rattle.ig_item.specs.Items.{span_of, MatchesNone}
use Rattle.ig_item.specs.declared.core_grammar.Nonterminal.{Nonterminal}
use Rattle.ig_item.specs.declared.core_grammar.CoreAlt.{CoreAlt}

module _ (core : List Nonterminal) (text : Input) where
  mutual
    -- where these names have these values, the steps lead from i to j with these trees
    pub data Leads : List (List ℕ) → List Value → List Step → ℕ → ℕ → Trees → Type 0 where
      -- no steps lead nowhere
      done : (names : List (List ℕ)) (env : List Value) (i : ℕ) → Leads names env [] i i none
      -- the condition is true
      test : (names : List (List ℕ)) (env : List Value) (e : Expression) (others : List Step) (i j : ℕ) (ts : Trees) →
          value_of text names env i e ≡ Some (Bool true) → Leads names env others i j ts →
          Leads names env (Test e ∷ others) i j ts
      -- the expression has a value, to which the name is bound in the other steps
      bind : (names : List (List ℕ)) (env : List Value) (name : List ℕ) (e : Expression) (v : Value) (others : List Step)
          (i j : ℕ) (ts : Trees) → value_of text names env i e ≡ Some v →
          Leads (names ++ name ∷ []) (env ++ v ∷ []) others i j ts → Leads names env (Bind name e ∷ others) i j ts
      -- the pattern matches, no excluded one does, and the label binds the span; the tree is a leaf
      terminal : (names : List (List ℕ)) (env : List Value) (what : Pattern) (label : Option (List ℕ))
          (excluded : List Pattern) (others : List Step) (i h j : ℕ) (ts us : Trees) → Matches text what i h →
          MatchesNone text excluded i h → Leads (names ++ labels label) (env ++ span_of label i h) others h j ts →
          us ≡ more (Leaf i h) ts → Leads names env (Term what label excluded ∷ others) i j us
      -- the arguments have values, the tree is one of the callee with them, no excluded pattern matches its text, and the
      -- label binds its span
      call : (names : List (List ℕ)) (env : List Value) (callee : ℕ) (arguments : List Expression)
          (label : Option (List ℕ)) (excluded : List Pattern) (vs : List Value) (others : List Step) (i h j : ℕ) (t : Tree)
          (ts us : Trees) → map (value_of text names env i) arguments ≡ map Some vs → HasTree callee vs i h t →
          MatchesNone text excluded i h → Leads (names ++ labels label) (env ++ span_of label i h) others h j ts →
          us ≡ more t ts → Leads names env (Call callee arguments label excluded ∷ others) i j us

    -- the tree is one of the nonterminal with these arguments from i to j: its alternative's steps lead there from the
    -- parameters' values
    pub data HasTree : ℕ → List Value → ℕ → ℕ → Tree → Type 0 where
      node : (n a : ℕ) (vs : List Value) (nonterminal : Nonterminal) (alternative : CoreAlt) (i j : ℕ) (ts : Trees) (t : Tree) →
          IsAlternative core n a nonterminal alternative → Leads nonterminal.params vs alternative.steps i j ts →
          t ≡ Node alternative.tag i j ts → HasTree n vs i j t

  -- a tree of the root over the whole text
  abbrev pub CoreTree : Tree → Type 0
  CoreTree t = HasTree 0 [] 0 (length text.characters) t
