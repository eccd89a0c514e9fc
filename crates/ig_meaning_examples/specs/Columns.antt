-- Columns: aligned items with separators and filters, and tokens of options, lists and groups in blocks.
use Rattle.std.specs.Prelude.{List, [], ◌∷◌, Some, codes, None}
use Rattle.ig_text.specs.declared.pattern.Pattern.TheVariants as pattern
use Rattle.ig_text.specs.declared.tag.Tag.TheVariants.{Nil, Snoc, One, More, Absent, Present}
use Rattle.ig_text.specs.Tree.{Leaf, Node, none}
use Rattle.ig_grammar.specs.Symbol.{Symbol, Literal, OneOf, Opt, Star, Plus, SepStar, SepPlus, Offside, Ignore, Align, Filtered}
use Rattle.ig_grammar.specs.declared.filter.Filter.TheVariants.{NotFollowed}
use Rattle.ig_grammar.specs.declared.declaration.DeclKind.TheVariants.{Syntax, Lexical}
use Rattle.ig_grammar.specs.declared.grammar.Grammar.{Grammar}
use Rattle.ig_grammar.specs.declared.declaration.Decl.{Decl}
use Rattle.ig_meaning_examples.specs.Exactly.{Permits}
use Rattle.ig_meaning_examples.specs.Notation.{letter, plain, together, rule, one_rule, layout, gap, trees, root, node, leaf_of, group}

-- `start P; syntax P = align {A ","}*; lexical A = [a-z];` and layout
abbrev pub separated : Grammar
separated =
    record {
      start = Some (codes "P");
      tabs = None;
      decls =
          rule Syntax (codes "P") (Align (SepStar (plain (codes "A")) (Literal (codes ","))) ∷ []) ∷ rule Lexical (codes "A") (OneOf letter ∷ []) ∷ layout ∷ [];
    }

-- the items of an aligned list start in one column, wherever its separators stand
pub record SeparatorsAreFree : Type 0 where
  pub one_column : Permits separated (codes "a\n ,\nb") 12 (root 6 (gap 3 0 0 ∷ node 1 1 0 6 (Node Present 0 6 (trees (Node More 0 6 (trees (Node One 0 3 (trees (leaf_of 2 1 0 1 ∷ gap 3 1 2 ∷ [])) ∷ Leaf 3 4 ∷ gap 3 4 1 ∷ leaf_of 2 1 5 6 ∷ gap 3 6 0 ∷ [])) ∷ [])) ∷ []) ∷ []) ∷ [])
  pub two_columns : Permits separated (codes "a,\n b") 12 []
  pub no_items : Permits separated [] 12 (root 0 (gap 3 0 0 ∷ node 1 1 0 0 (Node Absent 0 0 none ∷ []) ∷ []) ∷ [])

-- `("a" "\n")*`
abbrev pub lines : Symbol
lines = Star (together (Literal (codes "a") ∷ Literal (codes "\n") ∷ []))

-- `start S; syntax S = align ("a" "\n")* !>> "a" ("a" "\n")*;`
abbrev pub two_lists : Grammar
two_lists = one_rule (Align (Filtered lines (NotFollowed (pattern.Literal (codes "a")) ∷ [])) ∷ lines ∷ []) []

-- a filter round an aligned list is asked of the whole list
pub record AlignedListsHaveFilters : Type 0 where
  pub all_in_first : Permits two_lists (codes "a\na\n") 12 (root 4 (node 1 1 0 4 (Node Snoc 0 4 (trees (Node Snoc 0 2 (trees (Node Nil 0 0 none ∷ group 1 0 2 (Leaf 0 1 ∷ Leaf 1 2 ∷ []) ∷ [])) ∷ group 1 2 4 (Leaf 2 3 ∷ Leaf 3 4 ∷ []) ∷ [])) ∷ Node Nil 4 4 none ∷ []) ∷ []) ∷ [])

-- a grammar of one block, with these declarations
abbrev pub block : Symbol → List Decl → Grammar
block x others = one_rule (Offside x ∷ []) others

-- `start S; syntax S = offside ("x" "y"?);` and layout
abbrev pub with_option : Grammar
with_option = block (together (Literal (codes "x") ∷ Opt (Literal (codes "y")) ∷ [])) (layout ∷ [])

-- `start S; syntax S = offside ("x" align A+); syntax A = "a";` and layout
abbrev pub with_list : Grammar
with_list =
    block (together (Literal (codes "x") ∷ Align (Plus (plain (codes "A"))) ∷ [])) (rule Syntax (codes "A") (Literal (codes "a") ∷ []) ∷ layout ∷ [])

-- `start S; syntax S = offside {"a" ","}+;` and layout
abbrev pub with_separators : Grammar
with_separators = block (SepPlus (Literal (codes "a")) (Literal (codes ","))) (layout ∷ [])

-- `start S; syntax S = offside (ignore "a" "b");` and layout
abbrev pub with_ignored : Grammar
with_ignored = block (together (Ignore (Literal (codes "a")) ∷ Literal (codes "b") ∷ [])) (layout ∷ [])

-- a block sees the tokens of options, lists, separators and calls in it, and where it starts even a token that it
-- doesn't see counts
pub record BlocksSeeAllTokens : Type 0 where
  pub option : Permits with_option (codes " x\ny") 12 []
  pub list : Permits with_list (codes " x\na") 12 []
  pub list_right : Permits with_list (codes " x\n  a\n  a") 12 (root 10 (gap 3 0 1 ∷ node 1 1 1 10 (group 1 1 10 (Leaf 1 2 ∷ gap 3 2 3 ∷ Node More 5 10 (trees (Node One 5 9 (trees (node 2 1 5 9 (Leaf 5 6 ∷ gap 3 6 3 ∷ []) ∷ [])) ∷ node 2 1 9 10 (Leaf 9 10 ∷ gap 3 10 0 ∷ []) ∷ [])) ∷ []) ∷ []) ∷ []) ∷ [])
  pub separator : Permits with_separators (codes " a\n,\n  a") 12 []
  pub separator_right : Permits with_separators (codes " a\n  ,\n  a") 12 (root 10 (gap 2 0 1 ∷ node 1 1 1 10 (Node More 1 10 (trees (Node One 1 5 (trees (Leaf 1 2 ∷ gap 2 2 3 ∷ [])) ∷ Leaf 5 6 ∷ gap 2 6 3 ∷ Leaf 9 10 ∷ gap 2 10 0 ∷ [])) ∷ []) ∷ []) ∷ [])
  pub ignored : Permits with_ignored (codes "a\nb") 12 []
  pub ignored_right : Permits with_ignored (codes "a\n b") 12 (root 4 (gap 2 0 0 ∷ node 1 1 0 4 (group 1 0 4 (Leaf 0 1 ∷ gap 2 1 2 ∷ Leaf 3 4 ∷ gap 2 4 0 ∷ []) ∷ []) ∷ []) ∷ [])
