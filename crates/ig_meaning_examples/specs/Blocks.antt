-- Blocks: where the tokens under `offside` and the items under `align` stand.
use Rattle.std.specs.Prelude.{ℕ, ◌+◌, List, [], ◌∷◌, Some, codes, None}
use Rattle.ig_text.specs.declared.tag.Tag.TheVariants.{Nil, Snoc, One, More}
use Rattle.ig_text.specs.Tree.{Tree, Leaf, Node, none}
use Rattle.ig_grammar.specs.Symbol.{Symbol, Literal, Star, Plus, Offside, Ignore, Align}
use Rattle.ig_grammar.specs.declared.declaration.DeclKind.TheVariants.{Syntax}
use Rattle.ig_grammar.specs.declared.grammar.Grammar.{Grammar}
use Rattle.ig_meaning_examples.specs.Exactly.{Permits}
use Rattle.ig_meaning_examples.specs.Notation.{plain, together, choices, rule, layout, identifiers, trees, name_of, gap, root, node, group}

-- `start P; syntax P = align (offside Decl)*; syntax Decl = Id "=" Id+;` with identifiers and layout
abbrev pub declarations : Grammar
declarations =
    record {
      start = Some (codes "P");
      tabs = None;
      decls =
          rule Syntax (codes "P") (Align (Star (together (Offside (plain (codes "Decl")) ∷ []))) ∷ []) ∷ rule Syntax (codes "Decl") (plain (codes "Id") ∷ Literal (codes "=") ∷ Plus (plain (codes "Id")) ∷ []) ∷ identifiers ∷ layout ∷ [];
    }

-- `a = b\n  c`, from 0 to 10 with the line end behind it
abbrev pub first_declaration : Tree
first_declaration =
    node 2 1 0 10 (name_of 3 0 1 ∷ gap 4 1 1 ∷ Leaf 2 3 ∷ gap 4 3 1 ∷ Node More 4 10 (trees (Node One 4 8 (trees (name_of 3 4 1 ∷ gap 4 5 3 ∷ [])) ∷ name_of 3 8 1 ∷ gap 4 9 1 ∷ [])) ∷ [])

-- `d = e`, from 10 to 16
abbrev pub second_declaration : Tree
second_declaration =
    node 2 1 10 16 (name_of 3 10 1 ∷ gap 4 11 1 ∷ Leaf 12 13 ∷ gap 4 13 1 ∷ Node One 14 16 (trees (name_of 3 14 1 ∷ gap 4 15 1 ∷ [])) ∷ [])

-- both declarations
abbrev pub two_declarations : Tree
two_declarations =
    root 16 (gap 4 0 0 ∷ node 1 1 0 16 (Node Snoc 0 16 (trees (Node Snoc 0 10 (trees (Node Nil 0 0 none ∷ group 1 0 10 (first_declaration ∷ []) ∷ [])) ∷ group 1 10 16 (second_declaration ∷ []) ∷ [])) ∷ []) ∷ [])

-- a declaration goes on where its further lines stand to the right of its start, and all start in one column
pub record DeclarationsAreBlocks : Type 0 where
  pub two_blocks : Permits declarations (codes "a = b\n  c\nd = e\n") 13 (two_declarations ∷ [])
  pub no_block : Permits declarations (codes "a = b\nc\n") 13 []

-- `start S; syntax S = offside B; syntax B = offside Id offside N; syntax N = | "!";` with identifiers and layout
abbrev pub nested : Grammar
nested =
    record {
      start = Some (codes "S");
      tabs = None;
      decls =
          rule Syntax (codes "S") (Offside (plain (codes "B")) ∷ []) ∷ rule Syntax (codes "B") (Offside (plain (codes "Id")) ∷ Offside (plain (codes "N")) ∷ []) ∷ choices Syntax (codes "N") ([] ∷ (Literal (codes "!") ∷ []) ∷ []) ∷ identifiers ∷ layout ∷ [];
    }

-- a text of n characters: `a`, blanks, and then N
abbrev pub nested_tree : ℕ → ℕ → Tree → Tree
nested_tree n blanks end =
    root n (gap 5 0 0 ∷ node 1 1 0 n (node 2 1 0 n (name_of 4 0 1 ∷ gap 5 1 blanks ∷ end ∷ []) ∷ []) ∷ [])

-- a block that exposes no token may stand in any column, and the token of one inside another is asked of both
pub record NestedBlocksAreAsked : Type 0 where
  pub empty : Permits nested (codes "a\n") 10 (nested_tree 2 1 (node 3 1 2 2 []) ∷ [])
  pub right : Permits nested (codes "a\n !") 10 (nested_tree 4 2 (node 3 2 3 4 (Leaf 3 4 ∷ gap 5 4 0 ∷ [])) ∷ [])
  pub left : Permits nested (codes "a\n!") 10 []

-- a grammar of one declaration with this block, and layout
abbrev pub block : List Symbol → Grammar
block symbols = record { start = Some (codes "S"); tabs = None; decls = rule Syntax (codes "S") (Offside (together symbols) ∷ []) ∷ layout ∷ [] }

-- `"a" offside (ignore "b" offside (ignore "c" "d"))`
abbrev pub ignoring : List Symbol
ignoring =
    Literal (codes "a") ∷ Offside (together (Ignore (Literal (codes "b")) ∷ Offside (together (Ignore (Literal (codes "c")) ∷ Literal (codes "d") ∷ [])) ∷ [])) ∷ []

-- a token that is seen through all blocks stands to the right of each of their starts
pub record GreaterColumnsCount : Type 0 where
  pub right : Permits (block ignoring) (codes "    a\n b\n   c\n     d") 13 (root 20 (gap 2 0 4 ∷ node 1 1 4 20 (group 1 4 20 (Leaf 4 5 ∷ gap 2 5 2 ∷ group 1 7 20 (Leaf 7 8 ∷ gap 2 8 4 ∷ group 1 12 20 (Leaf 12 13 ∷ gap 2 13 6 ∷ Leaf 19 20 ∷ gap 2 20 0 ∷ []) ∷ []) ∷ []) ∷ []) ∷ []) ∷ [])
  pub below : Permits (block ignoring) (codes "    a\n b\n   c\n    d") 13 []

-- `"a" offside "b" "c"`
abbrev pub token_block : List Symbol
token_block = Literal (codes "a") ∷ Offside (Literal (codes "b")) ∷ Literal (codes "c") ∷ []

-- the tokens at 1, at i and at j, in a text of n characters
abbrev pub three_tokens : ℕ → ℕ → ℕ → ℕ → ℕ → Tree
three_tokens first i second j n =
    root n (gap 2 0 1 ∷ node 1 1 1 n (group 1 1 n (Leaf 1 2 ∷ gap 2 2 first ∷ Leaf i (i + 1) ∷ gap 2 (i + 1) second ∷ Leaf j n ∷ gap 2 n 0 ∷ []) ∷ []) ∷ [])

-- a token that is a block of its own is seen by the block round it, and what follows is not in its block
pub record TokensUnderBlocksAreSeen : Type 0 where
  pub own_lines : Permits (block token_block) (codes " a\n  b\n  c") 9 (three_tokens 3 5 3 9 10 ∷ [])
  pub one_line : Permits (block token_block) (codes " a b\n  c") 9 (three_tokens 1 3 3 7 8 ∷ [])
  pub second_left : Permits (block token_block) (codes " a\n b c") 9 []
  pub third_left : Permits (block token_block) (codes " a\n  b\n c") 9 []
