-- Symbols that cover nothing: a grammar with trees of every height, and left recursion behind an empty symbol.
use Rattle.std.specs.Prelude.{[], ◌∷◌, Some, codes, None}
use Rattle.ig_text.specs.Tree.{Tree, Leaf}
use Rattle.ig_grammar.specs.Symbol.{Literal}
use Rattle.ig_grammar.specs.declared.declaration.DeclKind.TheVariants.{Syntax}
use Rattle.ig_grammar.specs.declared.grammar.Grammar.{Grammar}
use Rattle.ig_meaning_examples.specs.Exactly.{Permits}
use Rattle.ig_meaning_examples.specs.Notation.{plain, choices, rule, root, node}

-- `start S; syntax S = S S | "a" | ;`
abbrev pub pairs : Grammar
pairs =
    record {
      start = Some (codes "S");
      tabs = None;
      decls = choices Syntax (codes "S") ((plain (codes "S") ∷ plain (codes "S") ∷ []) ∷ (Literal (codes "a") ∷ []) ∷ [] ∷ []) ∷ [];
    }

-- the empty S, by alternative 3
abbrev pub empty : Tree
empty = node 1 3 0 0 []

-- the empty text has one tree of height 2, and two of at most 3: each greater height has further ones
pub record EmptyPairsArePermitted : Type 0 where
  pub up_to_1 : Permits pairs [] 1 []
  pub up_to_2 : Permits pairs [] 2 (root 0 (empty ∷ []) ∷ [])
  pub up_to_3 : Permits pairs [] 3 (root 0 (node 1 1 0 0 (empty ∷ empty ∷ []) ∷ []) ∷ root 0 (empty ∷ []) ∷ [])

-- `start S; syntax S = B S "x" | "y"; syntax B = ;`
abbrev pub hidden : Grammar
hidden =
    record {
      start = Some (codes "S");
      tabs = None;
      decls =
          choices Syntax (codes "S") ((plain (codes "B") ∷ plain (codes "S") ∷ Literal (codes "x") ∷ []) ∷ (Literal (codes "y") ∷ []) ∷ []) ∷ rule Syntax (codes "B") [] ∷ [];
    }

-- the empty B at the start
abbrev pub nothing : Tree
nothing = node 2 1 0 0 []

-- S calls itself behind the empty B: as often as there is an x
pub record HiddenLeftRecursionIsPermitted : Type 0 where
  pub two_letters : Permits hidden (codes "yxx") 6 (root 3 (node 1 1 0 3 (nothing ∷ node 1 1 0 2 (nothing ∷ node 1 2 0 1 (Leaf 0 1 ∷ []) ∷ Leaf 1 2 ∷ []) ∷ Leaf 2 3 ∷ []) ∷ []) ∷ [])
  pub wrong_order : Permits hidden (codes "xy") 6 []
