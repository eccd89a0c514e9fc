-- What the pass keeps, what bounds ask, and how much the pass adds.
use Rattle.std.specs.Prelude.{◌≢◌, ◌↔◌, ◌++◌, ℕ, List, [], ◌∷◌, pos, ◌≡◌, true}
use Rattle.ig_text.specs.Input.{Input}
use Rattle.ig_text.specs.Tree.{Tree}
use Rattle.ig_expr.specs.declared.value.Value.{Value}
use Rattle.ig_expr.specs.declared.value.Value.TheVariants.{Int}
use Rattle.ig_grammar.specs.Checked.{CheckedGrammar}
use Rattle.ig_grammar.specs.declared.declaration.DeclKind.{DeclKind}
use Rattle.ig_grammar.specs.declared.declaration.DeclKind.TheVariants.{Syntax}
use Rattle.ig_meaning.specs.Clean.{Clean}
use Rattle.ig_meaning.specs.Derivation.{Instance}
use Rattle.ig_pass.specs.Added.{left_name, right_name}
use Rattle.ig_pass.specs.Counts.{Multiplies}
use Rattle.ig_pass.specs.Rooted.{rooted}
use Rattle.ig_pass.specs.SameTrees.{PermitSame}
use Rattle.ig_pass.specs.SameValues.{KeepsValues}
use Rattle.ig_pass.specs.Sound.{IsSound, IsFree}
use Rattle.ig_pass.specs.Unbound.{IsUnbound}
use Rattle.ig_levels.specs.Levels.{LevelsOf, names_levelled}
use Rattle.ig_levels.specs.Spines.{AtLeast}

-- the grammar without levels permits the same trees, with the same values, is sound, and has no operators
pub record KeptByLevels (c : CheckedGrammar) : Type 0 where
  pub same : PermitSame c (LevelsOf c)
  pub values : KeepsValues c (LevelsOf c)
  pub sound : IsSound (LevelsOf c)
  pub free : IsFree (LevelsOf c).grammar
  pub unbound : (name : List ℕ) → name ≢ left_name → name ≢ right_name → IsUnbound c.grammar name →
      IsUnbound (LevelsOf c).grammar name

abbrev pub LevelsKeep : Type 0
LevelsKeep =
    (c : CheckedGrammar) → IsSound c → IsUnbound c.grammar left_name → IsUnbound c.grammar right_name → KeptByLevels c

-- a tree of a nonterminal that keeps to the levels at each of its nodes, and to the bounds l and r along its outer spines
pub record IsWithin (c : CheckedGrammar) (text : Input) (name : List ℕ) (vs : List Value) (kind : DeclKind) (i e : ℕ)
    (t : Tree) (starts : List ℕ) (l r : ℕ) : Type 0 where
  pub derived : Instance c.grammar c.shapes text name vs kind i e t starts
  pub clean : Clean c.grammar t
  pub least : AtLeast c.grammar l r t

-- under the bounds l and r a levelled nonterminal has exactly the trees that are clean, where each node on the left spine
-- that has a left operand has at least the level l, and each one on the right spine that has a right operand at least r
abbrev pub BoundsAskOfSpines : Type 0
BoundsAskOfSpines =
    (c : CheckedGrammar) → IsSound c → IsUnbound c.grammar left_name → IsUnbound c.grammar right_name →
    (text : Input) (name : List ℕ) (vs : List Value) (kind : DeclKind) (i e : ℕ) (t : Tree) (starts : List ℕ) (l r : ℕ) →
    names_levelled (rooted Syntax c).grammar.decls name ≡ true →
    IsWithin (rooted Syntax c) text name vs kind i e t starts l r ↔
    Instance (LevelsOf c).grammar (LevelsOf c).shapes text name (vs ++ Int (pos l) ∷ Int (pos r) ∷ []) kind i e t starts

-- one bound on all counts grows threefold at most, with two for the root
abbrev pub LevelsMultiply : Type 0
LevelsMultiply = (c : CheckedGrammar) → Multiplies 3 c.grammar (LevelsOf c).grammar
