-- Bindings: where they are seen, and guards without a value.
use Rattle.std.specs.Prelude.{[], ◌∷◌, codes, pos}
use Rattle.ig_text.specs.Tree.{Leaf}
use Rattle.ig_expr.specs.Expression.{Integer, Variable, Here, Binary}
use Rattle.ig_expr.specs.declared.kind.Kind.TheVariants.{Int}
use Rattle.ig_expr.specs.declared.operator.Op.TheVariants.{Equal, Div}
use Rattle.ig_grammar.specs.Symbol.{Literal, Call, Label, Guard, Let}
use Rattle.ig_grammar.specs.declared.declaration.Assoc.TheVariants.{Free}
use Rattle.ig_grammar.specs.declared.declaration.DeclKind.TheVariants.{Syntax}
use Rattle.ig_grammar.specs.declared.declaration.Decl.{Decl}
use Rattle.ig_grammar.specs.declared.grammar.Grammar.{Grammar}
use Rattle.ig_meaning_examples.specs.Exactly.{Permits}
use Rattle.ig_meaning_examples.specs.Layout.{has_size}
use Rattle.ig_meaning_examples.specs.Notation.{together, level, one_rule, layout, gap, root, node, group}

-- `syntax B(n: int) = when (n == 2) "b";`
abbrev pub counted : Decl
counted =
    record {
      kind = Syntax;
      name = codes "B";
      params = record { name = codes "n"; kind = Int } ∷ [];
      levels =
          level Free ((Guard (Binary Equal (Variable (codes "n")) (Integer (pos 2))) ∷ Literal (codes "b") ∷ []) ∷ []) ∷ [];
    }

-- `start S; syntax S = "a" let k = (here) B(here) when (k == 2);`, B and layout
abbrev pub bound : Grammar
bound =
    one_rule (Literal (codes "a") ∷ Let (codes "k") Here ∷ Call (codes "B") (Here ∷ []) ∷ Guard (Binary Equal (Variable (codes "k")) (Integer (pos 2))) ∷ []) (counted ∷ layout ∷ [])

-- a let and the arguments of a call are evaluated where they stand, behind the layout of the token before them
pub record LetsStandBehindLayout : Type 0 where
  pub behind : Permits bound (codes "a b") 8 (root 3 (gap 3 0 0 ∷ node 1 1 0 3 (Leaf 0 1 ∷ gap 3 1 1 ∷ node 2 1 2 3 (Leaf 2 3 ∷ gap 3 3 0 ∷ []) ∷ []) ∷ []) ∷ [])

-- `start S; syntax S = (x: "aa") x: "a" when (size(x) == 1);`
abbrev pub labelled : Grammar
labelled =
    one_rule (together (Label (codes "x") (Literal (codes "aa")) ∷ []) ∷ Label (codes "x") (Literal (codes "a")) ∷ has_size (codes "x") 1 ∷ []) []

-- what a group binds is seen only inside it
pub record GroupsKeepTheirBindings : Type 0 where
  pub outside : Permits labelled (codes "aaa") 8 (root 3 (node 1 1 0 3 (group 1 0 2 (Leaf 0 2 ∷ []) ∷ Leaf 2 3 ∷ []) ∷ []) ∷ [])

-- `start S; syntax S = when ((1 div 0) == 1);`
abbrev pub divided : Grammar
divided =
    one_rule (Guard (Binary Equal (Binary Div (Integer (pos 1)) (Integer (pos 0))) (Integer (pos 1))) ∷ []) []

-- a guard without a value doesn't hold
pub record GuardsWantAValue : Type 0 where
  pub no_value : Permits divided [] 8 []
