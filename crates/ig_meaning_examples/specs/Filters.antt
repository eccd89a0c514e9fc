-- Filters: what they are asked of, with layout and round lists.
use Rattle.std.specs.Prelude.{[], ◌∷◌, codes, true}
use Rattle.ig_text.specs.declared.class.Class.TheVariants.{Ranges}
use Rattle.ig_text.specs.declared.pattern.Pattern.TheVariants as pattern
use Rattle.ig_text.specs.Tree.{Leaf}
use Rattle.ig_grammar.specs.Symbol.{Literal, OneOf, Filtered}
use Rattle.ig_grammar.specs.declared.filter.Filter.{Filter}
use Rattle.ig_grammar.specs.declared.filter.Filter.TheVariants.{NotFollowed, NotPreceded}
use Rattle.ig_grammar.specs.declared.declaration.DeclKind.TheVariants.{Syntax}
use Rattle.ig_grammar.specs.declared.grammar.Grammar.{Grammar}
use Rattle.ig_meaning_examples.specs.Exactly.{Permits}
use Rattle.ig_meaning_examples.specs.Notation.{plain, together, choices, one_rule, layout, gap, root, node, leaf_of}

-- `!>> "b"`
abbrev pub not_before_b : Filter
not_before_b = NotFollowed (pattern.Literal (codes "b"))

-- `start S; syntax S = "a" !>> "b" "b";` and layout, and the same with `("a")`
abbrev pub token_filtered : Grammar
token_filtered = one_rule (Filtered (Literal (codes "a")) (not_before_b ∷ []) ∷ Literal (codes "b") ∷ []) (layout ∷ [])

abbrev pub group_filtered : Grammar
group_filtered =
    one_rule (Filtered (together (Literal (codes "a") ∷ [])) (not_before_b ∷ []) ∷ Literal (codes "b") ∷ []) (layout ∷ [])

-- a filter on a token is asked before the layout behind the token, one on a group behind the layout in the group
pub record FiltersAreAskedAtOwnEnds : Type 0 where
  pub token : Permits token_filtered (codes "a b") 12 (root 3 (gap 2 0 0 ∷ node 1 1 0 3 (Leaf 0 1 ∷ gap 2 1 1 ∷ Leaf 2 3 ∷ gap 2 3 0 ∷ []) ∷ []) ∷ [])
  pub in_group : Permits group_filtered (codes "a b") 12 []

-- `start S; syntax S = A "b" !<< "a"; syntax A = "a" | "c";`
abbrev pub preceded : Grammar
preceded =
    one_rule (plain (codes "A") ∷ Filtered (Literal (codes "b")) (NotPreceded (pattern.Literal (codes "a")) ∷ []) ∷ []) (choices Syntax (codes "A") ((Literal (codes "a") ∷ []) ∷ (Literal (codes "c") ∷ []) ∷ []) ∷ [])

-- what stands before a symbol is asked where the symbol begins
pub record FiltersLookBack : Type 0 where
  pub refused : Permits preceded (codes "ab") 12 []
  pub passed : Permits preceded (codes "cb") 12 (root 2 (node 1 1 0 2 (leaf_of 2 2 0 1 ∷ Leaf 1 2 ∷ []) ∷ []) ∷ [])

-- `start S; syntax S = [^a];`
abbrev pub negated : Grammar
negated = one_rule (OneOf (Ranges true ((97, 97) ∷ [])) ∷ []) []

-- a negated class has all characters but those in its ranges
pub record NegatedClassesExclude : Type 0 where
  pub other : Permits negated (codes "b") 12 (root 1 (leaf_of 1 1 0 1 ∷ []) ∷ [])
  pub excluded : Permits negated (codes "a") 12 []
