-- What the facts of a core grammar's nonterminals say, and what that tells of its trees.
use Rattle.std.specs.Prelude.{◌≡◌, ◌↔◌, ◌≤◌, ℕ, ◌+◌, ◌*◌, List, length, slice_get, Some, true, false}
use Rattle.ig_text.specs.Input.{Input}
use Rattle.ig_text.specs.Tree.{Tree, height}
use Rattle.ig_expr.specs.declared.value.Value.{Value}
use Rattle.ig_item.specs.CoreTrees.{HasTree, CoreTree}
use Rattle.ig_item.specs.Regular.{IsRegular}
use Rattle.ig_item.specs.declared.core_grammar.Nonterminal.{Nonterminal}
use Rattle.ig_analyse.specs.Facts.{IsNullable, IsProductive, IsReached, IsLeftRecursive, IsCircular}
use Rattle.ig_analyse.specs.declared.facts.Fact.{Fact}

-- each is said exactly where it holds of nonterminal n
pub record SaysOf (core : List Nonterminal) (n : ℕ) (fact : Fact) : Type 0 where
  pub nullable : (fact.nullable ≡ true) ↔ IsNullable core n
  pub productive : (fact.productive ≡ true) ↔ IsProductive core n
  pub reachable : (fact.reachable ≡ true) ↔ IsReached core n
  pub left_recursive : (fact.left_recursive ≡ true) ↔ IsLeftRecursive core n
  pub cyclic : (fact.cyclic ≡ true) ↔ IsCircular core n

-- one for each nonterminal, in their order
pub record AreFactsOf (core : List Nonterminal) (facts : List Fact) : Type 0 where
  pub counted : length facts ≡ length core
  pub each : (n : ℕ) (fact : Fact) → slice_get facts n ≡ Some fact → SaysOf core n fact

-- none says that its nonterminal is at once cyclic, productive and reachable
abbrev pub NoneSaysRound : List Fact → Type 0
NoneSaysRound facts =
    (n : ℕ) (fact : Fact) → slice_get facts n ≡ Some fact → fact.cyclic ≡ true → fact.productive ≡ true → fact.reachable ≡ true → ⊥

-- whatever the text and the arguments
pub record TellOfTrees (core : List Nonterminal) (facts : List Fact) : Type 0 where
  -- a nonterminal that isn't productive has no tree
  pub unproductive : (n : ℕ) (fact : Fact) → slice_get facts n ≡ Some fact → fact.productive ≡ false →
      (text : Input) (vs : List Value) (i j : ℕ) (t : Tree) → HasTree core text n vs i j t → ⊥
  -- where no literal is empty, one that isn't nullable has none over an empty span
  pub not_nullable : IsRegular core → (n : ℕ) (fact : Fact) → slice_get facts n ≡ Some fact → fact.nullable ≡ false →
      (text : Input) (vs : List Value) (i : ℕ) (t : Tree) → HasTree core text n vs i i t → ⊥
  -- where besides none is at once cyclic, productive and reachable, trees have a bounded height
  pub bounded : IsRegular core → NoneSaysRound facts → (text : Input) (t : Tree) → CoreTree core text t →
      height t ≤ length core * (length text.characters + 1)
