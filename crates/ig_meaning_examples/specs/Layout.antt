-- Layout: behind each token of a syntax declaration, at the root, and where a rule calls it.
use Rattle.std.specs.Prelude.{ℕ, List, [], ◌∷◌, Some, codes, pos, None}
use Rattle.ig_text.specs.declared.tag.Tag.TheVariants.{Absent, Present}
use Rattle.ig_text.specs.Tree.{Leaf, Node, none}
use Rattle.ig_expr.specs.Expression.{Integer, Variable, Binary, Of}
use Rattle.ig_expr.specs.declared.operator.Op.TheVariants.{Equal}
use Rattle.ig_expr.specs.declared.operator.Function.TheVariants.{Size}
use Rattle.ig_grammar.specs.Symbol.{Symbol, Literal, OneOf, Label, Guard, Opt, Star, Offside}
use Rattle.ig_grammar.specs.declared.declaration.DeclKind.TheVariants.{Syntax, Lexical, Layout}
use Rattle.ig_grammar.specs.declared.grammar.Grammar.{Grammar}
use Rattle.ig_meaning_examples.specs.Exactly.{Permits}
use Rattle.ig_meaning_examples.specs.Notation.{range, plain, together, rule, one_rule, layout, gap, trees, root, node, leaf_of, group}

-- `start S; syntax S = "a" "b"? "c";` and layout
abbrev pub optional : Grammar
optional = one_rule (Literal (codes "a") ∷ Opt (Literal (codes "b")) ∷ Literal (codes "c") ∷ []) (layout ∷ [])

-- each token has its layout behind it, also one in an option
pub record OptionsHaveLayout : Type 0 where
  pub present : Permits optional (codes "a b c") 8 (root 5 (gap 2 0 0 ∷ node 1 1 0 5 (Leaf 0 1 ∷ gap 2 1 1 ∷ Node Present 2 4 (trees (Leaf 2 3 ∷ gap 2 3 1 ∷ [])) ∷ Leaf 4 5 ∷ gap 2 5 0 ∷ []) ∷ []) ∷ [])
  pub absent : Permits optional (codes "ac") 8 (root 2 (gap 2 0 0 ∷ node 1 1 0 2 (Leaf 0 1 ∷ gap 2 1 0 ∷ Node Absent 1 1 none ∷ Leaf 1 2 ∷ gap 2 2 0 ∷ []) ∷ []) ∷ [])

-- `start S; syntax S = offside ("a" "\n" W "b"); layout W = "-"?;`
abbrev pub called : Grammar
called =
    one_rule (Offside (together (Literal (codes "a") ∷ Literal (codes "\n") ∷ plain (codes "W") ∷ Literal (codes "b") ∷ [])) ∷ []) (rule Layout (codes "W") (Opt (Literal (codes "-")) ∷ []) ∷ [])

-- a call of the layout nonterminal is no token: no layout stands behind it, and no block asks where it starts
pub record CallsOfLayoutAreNoTokens : Type 0 where
  pub either : Permits called (codes "a\n-b") 8 (root 4 (node 2 1 0 0 (Node Absent 0 0 none ∷ []) ∷ node 1 1 0 4 (group 1 0 4 (Leaf 0 1 ∷ node 2 1 1 1 (Node Absent 1 1 none ∷ []) ∷ Leaf 1 2 ∷ node 2 1 2 2 (Node Absent 2 2 none ∷ []) ∷ node 2 1 2 3 (Node Present 2 3 (trees (Leaf 2 3 ∷ [])) ∷ []) ∷ Leaf 3 4 ∷ node 2 1 4 4 (Node Absent 4 4 none ∷ []) ∷ []) ∷ []) ∷ []) ∷ root 4 (node 2 1 0 0 (Node Absent 0 0 none ∷ []) ∷ node 1 1 0 4 (group 1 0 4 (Leaf 0 1 ∷ node 2 1 1 1 (Node Absent 1 1 none ∷ []) ∷ Leaf 1 2 ∷ node 2 1 2 3 (Node Present 2 3 (trees (Leaf 2 3 ∷ [])) ∷ []) ∷ node 2 1 3 3 (Node Absent 3 3 none ∷ []) ∷ Leaf 3 4 ∷ node 2 1 4 4 (Node Absent 4 4 none ∷ []) ∷ []) ∷ []) ∷ []) ∷ [])

-- `layout W = [ ]*;`
abbrev pub spaces : Symbol
spaces = Star (OneOf (range 32 32))

-- `start L; lexical L = "a";` and that layout
abbrev pub lexical_start : Grammar
lexical_start =
    record { start = Some (codes "L"); tabs = None; decls = rule Lexical (codes "L") (Literal (codes "a") ∷ []) ∷ rule Layout (codes "W") (spaces ∷ []) ∷ [] }

-- a start symbol that is a token has layout behind it
pub record LexicalStartsHaveLayout : Type 0 where
  pub both_sides : Permits lexical_start (codes " a ") 8 (root 3 (gap 2 0 1 ∷ leaf_of 1 1 1 2 ∷ gap 2 2 1 ∷ []) ∷ [])

-- `start W; syntax S = "a";` and that layout
abbrev pub layout_start : Grammar
layout_start =
    record { start = Some (codes "W"); tabs = None; decls = rule Syntax (codes "S") (Literal (codes "a") ∷ []) ∷ rule Layout (codes "W") (spaces ∷ []) ∷ [] }

-- where layout is the start symbol, the root has two of it
pub record LayoutMayStart : Type 0 where
  pub two : Permits layout_start (codes " ") 8 (root 1 (gap 2 0 0 ∷ gap 2 0 1 ∷ []) ∷ root 1 (gap 2 0 1 ∷ gap 2 1 0 ∷ []) ∷ [])

-- the size of what the label binds is n
abbrev pub has_size : List ℕ → ℕ → Symbol
has_size label n = Guard (Binary Equal (Of Size (Variable label)) (Integer (pos n)))

-- `start S; syntax S = x: "a" y: ("b") when (size(x) == 1) when (size(y) == 2);` and layout
abbrev pub labelled : Grammar
labelled =
    one_rule (Label (codes "x") (Literal (codes "a")) ∷ Label (codes "y") (together (Literal (codes "b") ∷ [])) ∷ has_size (codes "x") 1 ∷ has_size (codes "y") 2 ∷ []) (layout ∷ [])

-- a label on a token binds the token alone, and one on a group all of the group, with the layout in it
pub record LabelsBindOwnEnds : Type 0 where
  pub own_ends : Permits labelled (codes "a b ") 8 (root 4 (gap 2 0 0 ∷ node 1 1 0 4 (Leaf 0 1 ∷ gap 2 1 1 ∷ group 1 2 4 (Leaf 2 3 ∷ gap 2 3 1 ∷ []) ∷ []) ∷ []) ∷ [])
