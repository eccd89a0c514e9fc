-- Forms that only passes write: sequences, entries, a declaration that stands for the root, and declarations that stand
-- for options, lists and groups.
use Rattle.std.specs.Prelude.{ℕ, List, [], ◌∷◌, Some, codes, pos, None}
use Rattle.ig_text.specs.Input.{untabbed}
use Rattle.ig_text.specs.declared.tag.Tag.TheVariants.{Nil, Snoc, One, More, Absent, Present}
use Rattle.ig_text.specs.Tree.{Leaf, Node, none}
use Rattle.ig_expr.specs.Expression.{Expression, Integer, Variable, Here, Binary}
use Rattle.ig_expr.specs.declared.kind.Kind.TheVariants.{Int}
use Rattle.ig_expr.specs.declared.operator.Op.TheVariants.{Add, Equal}
use Rattle.ig_grammar.specs.Binding.{Binding}
use Rattle.ig_grammar.specs.Symbol.{Symbol, Literal, Call, Label, Guard, Let, Seq, Entry, gathered}
use Rattle.ig_grammar.specs.declared.declaration.Assoc.TheVariants.{Free}
use Rattle.ig_grammar.specs.declared.declaration.DeclKind.{DeclKind}
use Rattle.ig_grammar.specs.declared.declaration.DeclKind.TheVariants.{Syntax, Lexical, Layout, Plain}
use Rattle.ig_grammar.specs.declared.declaration.Decl.{Decl}
use Rattle.ig_grammar.specs.declared.grammar.Grammar.{Grammar}
use Rattle.ig_grammar.specs.declared.place.Shape.{Shape}
use Rattle.ig_grammar.specs.declared.place.Shape.TheVariants as shape
use Rattle.ig_meaning_examples.specs.Exactly.{Permits, PermitsExactly}
use Rattle.ig_meaning_examples.specs.Layout.{spaces, has_size}
use Rattle.ig_meaning_examples.specs.Notation.{plain, together, level, rule, choices, one_rule, layout, gap, trees, root, node, leaf_of, group}

-- `"a" let k = (here)` as a sequence in place, then `when (k == 2) "b"`, and layout
abbrev pub in_place : Grammar
in_place =
    one_rule (Seq (gathered (Literal (codes "a") ∷ Let (codes "k") Here ∷ [])) ∷ Guard (Binary Equal (Variable (codes "k")) (Integer (pos 2))) ∷ Literal (codes "b") ∷ []) (layout ∷ [])

-- a label round `"a"` as a sequence in place, then `when (size(x) == 2) "b"`, and layout
abbrev pub labelled_sequence : Grammar
labelled_sequence =
    one_rule (Label (codes "x") (Seq (gathered (Literal (codes "a") ∷ []))) ∷ has_size (codes "x") 2 ∷ Literal (codes "b") ∷ []) (layout ∷ [])

-- what a sequence binds is seen behind it, and its own end is behind its layout
pub record SequencesStandInPlace : Type 0 where
  pub binds : Permits in_place (codes "a b") 8 (root 3 (gap 2 0 0 ∷ node 1 1 0 3 (Leaf 0 1 ∷ gap 2 1 1 ∷ Leaf 2 3 ∷ gap 2 3 0 ∷ []) ∷ []) ∷ [])
  pub ends : Permits labelled_sequence (codes "a b") 8 (root 3 (gap 2 0 0 ∷ node 1 1 0 3 (Leaf 0 1 ∷ gap 2 1 1 ∷ Leaf 2 3 ∷ gap 2 3 0 ∷ []) ∷ []) ∷ [])

abbrev pub n : Expression
n = Variable (codes "n")

-- `name = e`
abbrev pub binding : List ℕ → Expression → Binding
binding name e = record { name = name; value = e }

abbrev pub is : Expression → ℕ → Symbol
is e k = Guard (Binary Equal e (Integer (pos k)))

-- `A(n: int)`: an entry with n + 1 as n, and n as m, into `(when (n == 2) when (m == 1) "a")`; then `when (n == 1)`
abbrev pub entering : Decl
entering =
    record {
      kind = Syntax;
      name = codes "A";
      params = record { name = codes "n"; kind = Int } ∷ [];
      levels =
          level Free ((Entry (binding (codes "n") (Binary Add n (Integer (pos 1))) ∷ binding (codes "m") n ∷ []) (together (is n 2 ∷ is (Variable (codes "m")) 1 ∷ Literal (codes "a") ∷ [])) ∷ is n 1 ∷ []) ∷ []) ∷ [];
    }

-- `start S; syntax S = A(1);` and A
abbrev pub entered : Grammar
entered = one_rule (Call (codes "A") (Integer (pos 1) ∷ []) ∷ []) (entering ∷ [])

-- the bindings of an entry are evaluated before any of them counts, and count inside it alone
pub record EntriesBindInside : Type 0 where
  pub inside : Permits entered (codes "a") 8 (root 1 (node 1 1 0 1 (node 2 1 0 1 (group 1 0 1 (Leaf 0 1 ∷ []) ∷ []) ∷ []) ∷ []) ∷ [])
  pub nothing : Permits entered [] 8 []

-- `lexical L = "a"; layout W = [ ]*;` and a declaration of this kind that stands for the root: `W L`
abbrev pub rooted : DeclKind → Grammar
rooted kind =
    record {
      start = Some (codes "$root");
      tabs = None;
      decls =
          rule Lexical (codes "L") (Literal (codes "a") ∷ []) ∷ rule Layout (codes "W") (spaces ∷ []) ∷ rule kind (codes "$root") (plain (codes "W") ∷ plain (codes "L") ∷ []) ∷ [];
    }

abbrev pub rooted_shapes : List Shape
rooted_shapes = shape.Rule ∷ shape.Rule ∷ shape.Root ∷ []

-- a declaration that stands for the root is read by its kind
pub record RootsAreReadByTheirKind : Type 0 where
  pub plain_root : PermitsExactly (rooted Plain) rooted_shapes (untabbed (codes " a")) 8 (root 2 (gap 2 0 1 ∷ leaf_of 1 1 1 2 ∷ []) ∷ [])
  pub no_layout_behind : PermitsExactly (rooted Plain) rooted_shapes (untabbed (codes " a ")) 8 []
  pub syntax_root : PermitsExactly (rooted Syntax) rooted_shapes (untabbed (codes " a ")) 8 (root 3 (gap 2 0 1 ∷ leaf_of 1 1 1 2 ∷ gap 2 2 1 ∷ []) ∷ [])

-- `start S; syntax S = "a"? "b"* "c"+ {"d" ","}+ {"d" ","}* ("e" | "f");`, with a declaration for each form
abbrev pub forms : Grammar
forms =
    one_rule (plain (codes "S#1") ∷ plain (codes "S#2") ∷ plain (codes "S#3") ∷ plain (codes "S#4") ∷ plain (codes "S#5") ∷ plain (codes "S#6") ∷ []) (choices Plain (codes "S#1") ([] ∷ (Literal (codes "a") ∷ []) ∷ []) ∷ choices Plain (codes "S#2") ([] ∷ (plain (codes "S#2") ∷ Literal (codes "b") ∷ []) ∷ []) ∷ choices Plain (codes "S#3") ((Literal (codes "c") ∷ []) ∷ (plain (codes "S#3") ∷ Literal (codes "c") ∷ []) ∷ []) ∷ choices Plain (codes "S#4") ((Literal (codes "d") ∷ []) ∷ (plain (codes "S#4") ∷ Literal (codes ",") ∷ Literal (codes "d") ∷ []) ∷ []) ∷ choices Plain (codes "S#5") ([] ∷ (plain (codes "S#4") ∷ []) ∷ []) ∷ choices Plain (codes "S#6") ((Literal (codes "e") ∷ []) ∷ (Literal (codes "f") ∷ []) ∷ []) ∷ [])

abbrev pub form_shapes : List Shape
form_shapes = shape.Rule ∷ shape.Opt ∷ shape.Star ∷ shape.Plus ∷ shape.SepPlus ∷ shape.SepStar ∷ shape.Group ∷ []

-- the trees of a declaration that stands for a form have the tags of that form
pub record ShapesGiveTags : Type 0 where
  pub tags : PermitsExactly forms form_shapes (untabbed (codes "abccd,df")) 8 (root 8 (node 1 1 0 8 (Node Present 0 1 (trees (Leaf 0 1 ∷ [])) ∷ Node Snoc 1 2 (trees (Node Nil 1 1 none ∷ Leaf 1 2 ∷ [])) ∷ Node More 2 4 (trees (Node One 2 3 (trees (Leaf 2 3 ∷ [])) ∷ Leaf 3 4 ∷ [])) ∷ Node More 4 7 (trees (Node One 4 5 (trees (Leaf 4 5 ∷ [])) ∷ Leaf 5 6 ∷ Leaf 6 7 ∷ [])) ∷ Node Absent 7 7 none ∷ group 2 7 8 (Leaf 7 8 ∷ []) ∷ []) ∷ []) ∷ [])
  pub other_tags : PermitsExactly forms form_shapes (untabbed (codes "cdd,de")) 8 (root 6 (node 1 1 0 6 (Node Absent 0 0 none ∷ Node Nil 0 0 none ∷ Node One 0 1 (trees (Leaf 0 1 ∷ [])) ∷ Node One 1 2 (trees (Leaf 1 2 ∷ [])) ∷ Node Present 2 5 (trees (Node More 2 5 (trees (Node One 2 3 (trees (Leaf 2 3 ∷ [])) ∷ Leaf 3 4 ∷ Leaf 4 5 ∷ [])) ∷ [])) ∷ group 1 5 6 (Leaf 5 6 ∷ []) ∷ []) ∷ []) ∷ [])
