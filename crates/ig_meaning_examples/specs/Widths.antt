-- Widths of tabs: in which column what stands behind a tab begins.
use Rattle.std.specs.Prelude.{ℕ, List, [], ◌∷◌, false, Some, codes, ℤ, pos}
use Rattle.ig_text.specs.declared.class.Class.{Class}
use Rattle.ig_text.specs.declared.class.Class.TheVariants.{Ranges}
use Rattle.ig_text.specs.declared.pattern.Pattern.TheVariants as pattern
use Rattle.ig_text.specs.declared.tag.Tag.TheVariants.{Present, Nil, Snoc, One}
use Rattle.ig_text.specs.Tree.{Tree, Leaf, Node, none}
use Rattle.ig_expr.specs.Expression.{Integer, Here, Binary, Of}
use Rattle.ig_expr.specs.declared.operator.Function.TheVariants.{Column}
use Rattle.ig_expr.specs.declared.operator.Op.TheVariants.{Equal}
use Rattle.ig_grammar.specs.Symbol.{Symbol, Literal, OneOf, Guard, Opt, Star, Plus, Offside, Align, Filtered}
use Rattle.ig_grammar.specs.declared.filter.Filter.TheVariants.{NotFollowed}
use Rattle.ig_grammar.specs.declared.declaration.DeclKind.TheVariants.{Syntax, Layout}
use Rattle.ig_grammar.specs.declared.declaration.Decl.{Decl}
use Rattle.ig_grammar.specs.declared.grammar.Grammar.{Grammar}
use Rattle.ig_meaning_examples.specs.Exactly.{Permits}
use Rattle.ig_meaning_examples.specs.Notation.{plain, together, rule, identifiers, trees, name_of, gap, root, node, group}

-- `start S; tabs N;`, a syntax declaration `S` of one alternative, and the other declarations
abbrev pub wide : ℤ → List Symbol → List Decl → Grammar
wide n symbols others = record { start = Some (codes "S"); tabs = Some n; decls = rule Syntax (codes "S") symbols ∷ others }

-- `when (column(here) == n)`
abbrev pub in_column : ℤ → Symbol
in_column n = Guard (Binary Equal (Of Column Here) (Integer n))

-- a blank, a line end or a tab
abbrev pub space : Class
space = Ranges false ((9, 10) ∷ (32, 32) ∷ [])

-- `layout W = [ \n\t]* !>> [ \n\t];`
abbrev pub tabbed_layout : Decl
tabbed_layout = rule Layout (codes "W") (Filtered (Star (OneOf space)) (NotFollowed (pattern.OneOf space) ∷ []) ∷ [])

-- `start S; tabs 4; syntax S = "\t"? "a" when (column(here) == 6);`
abbrev pub maybe_tab : Grammar
maybe_tab = wide (pos 4) (Opt (Literal (codes "\t")) ∷ Literal (codes "a") ∷ in_column (pos 6) ∷ []) []

-- `start S; tabs N; syntax S = WORD when (column(here) == C);`
abbrev pub ends_in : ℤ → List ℕ → ℤ → Grammar
ends_in n word column = wide n (Literal word ∷ in_column column ∷ []) []

-- a tab goes on to the next column that is 1 plus a multiple of the width, on its own line
pub record TabsGoOnToStops : Type 0 where
  pub first : Permits maybe_tab (codes "\ta") 8 (root 2 (node 1 1 0 2 (Node Present 0 1 (trees (Leaf 0 1 ∷ [])) ∷ Leaf 1 2 ∷ []) ∷ []) ∷ [])
  pub no_tab : Permits maybe_tab (codes "a") 8 []
  pub within : Permits (ends_in (pos 4) (codes "ab\tc") (pos 6)) (codes "ab\tc") 8 (root 4 (node 1 1 0 4 (Leaf 0 4 ∷ []) ∷ []) ∷ [])
  pub at_stop : Permits (ends_in (pos 4) (codes "abcd\tc") (pos 10)) (codes "abcd\tc") 8 (root 6 (node 1 1 0 6 (Leaf 0 6 ∷ []) ∷ []) ∷ [])
  pub second_line : Permits (ends_in (pos 8) (codes "a\n\tb") (pos 10)) (codes "a\n\tb") 8 (root 4 (node 1 1 0 4 (Leaf 0 4 ∷ []) ∷ []) ∷ [])
  pub two : Permits (ends_in (pos 3) (codes "\t\t") (pos 7)) (codes "\t\t") 8 (root 2 (node 1 1 0 2 (Leaf 0 2 ∷ []) ∷ []) ∷ [])

-- `start S; tabs 4; syntax S = offside ("a" "b");` and that layout
abbrev pub tabbed_block : Grammar
tabbed_block = wide (pos 4) (Offside (together (Literal (codes "a") ∷ Literal (codes "b") ∷ [])) ∷ []) (tabbed_layout ∷ [])

-- a text of n characters: a tab, `a`, so many blanks, and `b`
abbrev pub two_lines : ℕ → ℕ → ℕ → Tree
two_lines n blanks b =
    root n (gap 2 0 1 ∷ node 1 1 1 n (group 1 1 n (Leaf 1 2 ∷ gap 2 2 blanks ∷ Leaf b n ∷ gap 2 n 0 ∷ []) ∷ []) ∷ [])

-- blanks and tabs that come to one column stand alike under `offside`
pub record BlocksSeeTabs : Type 0 where
  pub behind_tab : Permits tabbed_block (codes "\ta\n\t b") 12 (two_lines 6 3 5 ∷ [])
  pub behind_blanks : Permits tabbed_block (codes "\ta\n     b") 14 (two_lines 9 6 8 ∷ [])
  pub in_its_column : Permits tabbed_block (codes "\ta\n    b") 14 []

-- `start P; tabs 4; syntax P = align (offside Decl)*; syntax Decl = Id "=" Id+;` with identifiers and that layout
abbrev pub tabbed_declarations : Grammar
tabbed_declarations =
    record {
      start = Some (codes "P");
      tabs = Some (pos 4);
      decls =
          rule Syntax (codes "P") (Align (Star (together (Offside (plain (codes "Decl")) ∷ []))) ∷ []) ∷ rule Syntax (codes "Decl") (plain (codes "Id") ∷ Literal (codes "=") ∷ Plus (plain (codes "Id")) ∷ []) ∷ identifiers ∷ tabbed_layout ∷ [];
    }

-- `a = b` behind a tab, with the line end and four blanks behind it, from 1 to 11
abbrev pub tabbed_first : Tree
tabbed_first =
    node 2 1 1 11 (name_of 3 1 1 ∷ gap 4 2 1 ∷ Leaf 3 4 ∷ gap 4 4 1 ∷ Node One 5 11 (trees (name_of 3 5 1 ∷ gap 4 6 5 ∷ [])) ∷ [])

-- `c = d`, from 11 to 16
abbrev pub tabbed_second : Tree
tabbed_second =
    node 2 1 11 16 (name_of 3 11 1 ∷ gap 4 12 1 ∷ Leaf 13 14 ∷ gap 4 14 1 ∷ Node One 15 16 (trees (name_of 3 15 1 ∷ gap 4 16 0 ∷ [])) ∷ [])

-- and so they do under `align`
pub record ListsSeeTabs : Type 0 where
  pub one_column : Permits tabbed_declarations (codes "\ta = b\n    c = d") 16 (root 16 (gap 4 0 1 ∷ node 1 1 1 16 (Node Snoc 1 16 (trees (Node Snoc 1 11 (trees (Node Nil 1 1 none ∷ group 1 1 11 (tabbed_first ∷ []) ∷ [])) ∷ group 1 11 16 (tabbed_second ∷ []) ∷ [])) ∷ []) ∷ []) ∷ [])
  pub two_columns : Permits tabbed_declarations (codes "\ta = b\n   c = d") 16 []
