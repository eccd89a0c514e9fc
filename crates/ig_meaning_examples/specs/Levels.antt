-- Operators that group to the right, operands with labels, guards, lets and filters beside them, and operators in
-- brackets and with arguments.
use Rattle.std.specs.Prelude.{[], ◌∷◌, codes, pos}
use Rattle.ig_text.specs.Tree.{Leaf}
use Rattle.ig_text.specs.declared.pattern.Pattern.TheVariants as pattern
use Rattle.ig_expr.specs.Expression.{Expression, Integer, Variable, Binary, Of}
use Rattle.ig_expr.specs.declared.kind.Kind.TheVariants.{Int}
use Rattle.ig_expr.specs.declared.operator.Op.TheVariants.{Equal, Greater}
use Rattle.ig_expr.specs.declared.operator.Function.TheVariants.{Size}
use Rattle.ig_grammar.specs.Symbol.{Symbol, OneOf, Literal, Call, Label, Guard, Let, Filtered}
use Rattle.ig_grammar.specs.declared.filter.Filter.TheVariants.{NotFollowed}
use Rattle.ig_grammar.specs.declared.declaration.Assoc.TheVariants.{Free, Left, Right}
use Rattle.ig_grammar.specs.declared.declaration.DeclKind.TheVariants.{Syntax}
use Rattle.ig_grammar.specs.declared.declaration.Level.{Level}
use Rattle.ig_grammar.specs.declared.declaration.Decl.{Decl}
use Rattle.ig_grammar.specs.declared.grammar.Grammar.{Grammar}
use Rattle.ig_meaning_examples.specs.Exactly.{Permits}
use Rattle.ig_meaning_examples.specs.Operators.{between, grammar_of}
use Rattle.ig_meaning_examples.specs.Notation.{range, plain, level, one_rule, root, node, leaf_of}

-- `"a"`, alone on its level
abbrev pub letter_a : Level
letter_a = level Free ((Literal (codes "a") ∷ []) ∷ [])

-- `start E; syntax E = [a-c] > right E "^" E;`
abbrev pub to_the_right : Grammar
to_the_right =
    grammar_of (level Free ((OneOf (range 97 99) ∷ []) ∷ []) ∷ level Right (between (codes "^") ∷ []) ∷ [])

-- operators under `right` group to the right
pub record OperatorsGroupToTheRight : Type 0 where
  pub powers : Permits to_the_right (codes "a^b^c") 8 (root 5 (node 1 2 0 5 (leaf_of 1 1 0 1 ∷ Leaf 1 2 ∷ node 1 2 2 5 (leaf_of 1 1 2 3 ∷ Leaf 3 4 ∷ leaf_of 1 1 4 5 ∷ []) ∷ []) ∷ []) ∷ [])

-- `start E; syntax E = "a" > left l: E "+" when (size(l) > 0) r: E let n = (size(r));`
abbrev pub with_labels : Grammar
with_labels =
    grammar_of (letter_a ∷ level Left ((Label (codes "l") (plain (codes "E")) ∷ Literal (codes "+") ∷ Guard (Binary Greater (Of Size (Variable (codes "l"))) (Integer (pos 0))) ∷ Label (codes "r") (plain (codes "E")) ∷ Let (codes "n") (Of Size (Variable (codes "r"))) ∷ []) ∷ []) ∷ [])

-- a call with a label is an operand, and guards and lets beside it change nothing
pub record LabelledCallsAreOperands : Type 0 where
  pub labelled : Permits with_labels (codes "a+a+a") 8 (root 5 (node 1 2 0 5 (node 1 2 0 3 (leaf_of 1 1 0 1 ∷ Leaf 1 2 ∷ leaf_of 1 1 2 3 ∷ []) ∷ Leaf 3 4 ∷ leaf_of 1 1 4 5 ∷ []) ∷ []) ∷ [])

-- `start E; syntax E = "a" > left E "+" E !>> "!";`
abbrev pub with_filter : Grammar
with_filter =
    grammar_of (letter_a ∷ level Left ((plain (codes "E") ∷ Literal (codes "+") ∷ Filtered (plain (codes "E")) (NotFollowed (pattern.Literal (codes "!")) ∷ []) ∷ []) ∷ []) ∷ [])

-- a call with filters is no operand
pub record FilteredCallsAreNoOperands : Type 0 where
  pub both : Permits with_filter (codes "a+a+a") 8 (root 5 (node 1 2 0 5 (leaf_of 1 1 0 1 ∷ Leaf 1 2 ∷ node 1 2 2 5 (leaf_of 1 1 2 3 ∷ Leaf 3 4 ∷ leaf_of 1 1 4 5 ∷ []) ∷ []) ∷ []) ∷ root 5 (node 1 2 0 5 (node 1 2 0 3 (leaf_of 1 1 0 1 ∷ Leaf 1 2 ∷ leaf_of 1 1 2 3 ∷ []) ∷ Leaf 3 4 ∷ leaf_of 1 1 4 5 ∷ []) ∷ []) ∷ [])

-- `start E; syntax E = "a" | "(" E ")" > left E "+" E;`
abbrev pub with_brackets : Grammar
with_brackets =
    grammar_of (level Free ((Literal (codes "a") ∷ []) ∷ (Literal (codes "(") ∷ plain (codes "E") ∷ Literal (codes ")") ∷ []) ∷ []) ∷ level Left (between (codes "+") ∷ []) ∷ [])

-- trees are clean inside brackets, too
pub record BracketsAreClean : Type 0 where
  pub inside : Permits with_brackets (codes "(a+a+a)") 8 (root 7 (node 1 2 0 7 (Leaf 0 1 ∷ node 1 3 1 6 (node 1 3 1 4 (leaf_of 1 1 1 2 ∷ Leaf 2 3 ∷ leaf_of 1 1 3 4 ∷ []) ∷ Leaf 4 5 ∷ leaf_of 1 1 5 6 ∷ []) ∷ Leaf 6 7 ∷ []) ∷ []) ∷ [])

-- `E(n)`
abbrev pub called_with : Expression → Symbol
called_with n = Call (codes "E") (n ∷ [])

-- `0`
abbrev pub zero : Expression
zero = Integer (pos 0)

-- `syntax E(n: int) = "a" > left E(0) "+" E(0) > when (n == 0) E(1);`
abbrev pub counted : Decl
counted =
    record {
      kind = Syntax;
      name = codes "E";
      params = record { name = codes "n"; kind = Int } ∷ [];
      levels =
          letter_a ∷ level Left ((called_with zero ∷ Literal (codes "+") ∷ called_with zero ∷ []) ∷ []) ∷ level Free ((Guard (Binary Equal (Variable (codes "n")) zero) ∷ called_with (Integer (pos 1)) ∷ []) ∷ []) ∷ [];
    }

-- `start S; syntax S = E(0);` and E
abbrev pub with_arguments : Grammar
with_arguments = one_rule (called_with zero ∷ []) (counted ∷ [])

-- an alternative whose first symbol is also its last has no operand, so nothing is asked of its tree
pub record SingleCallsAreNoOperands : Type 0 where
  pub sums : Permits with_arguments (codes "a+a") 8 (root 3 (node 1 1 0 3 (node 2 2 0 3 (leaf_of 2 1 0 1 ∷ Leaf 1 2 ∷ leaf_of 2 1 2 3 ∷ []) ∷ []) ∷ []) ∷ root 3 (node 1 1 0 3 (node 2 2 0 3 (leaf_of 2 1 0 1 ∷ Leaf 1 2 ∷ node 2 3 2 3 (leaf_of 2 1 2 3 ∷ []) ∷ []) ∷ []) ∷ []) ∷ root 3 (node 1 1 0 3 (node 2 2 0 3 (node 2 3 0 1 (leaf_of 2 1 0 1 ∷ []) ∷ Leaf 1 2 ∷ leaf_of 2 1 2 3 ∷ []) ∷ []) ∷ []) ∷ root 3 (node 1 1 0 3 (node 2 2 0 3 (node 2 3 0 1 (leaf_of 2 1 0 1 ∷ []) ∷ Leaf 1 2 ∷ node 2 3 2 3 (leaf_of 2 1 2 3 ∷ []) ∷ []) ∷ []) ∷ []) ∷ root 3 (node 1 1 0 3 (node 2 3 0 3 (node 2 2 0 3 (leaf_of 2 1 0 1 ∷ Leaf 1 2 ∷ leaf_of 2 1 2 3 ∷ []) ∷ []) ∷ []) ∷ []) ∷ root 3 (node 1 1 0 3 (node 2 3 0 3 (node 2 2 0 3 (leaf_of 2 1 0 1 ∷ Leaf 1 2 ∷ node 2 3 2 3 (leaf_of 2 1 2 3 ∷ []) ∷ []) ∷ []) ∷ []) ∷ []) ∷ root 3 (node 1 1 0 3 (node 2 3 0 3 (node 2 2 0 3 (node 2 3 0 1 (leaf_of 2 1 0 1 ∷ []) ∷ Leaf 1 2 ∷ leaf_of 2 1 2 3 ∷ []) ∷ []) ∷ []) ∷ []) ∷ root 3 (node 1 1 0 3 (node 2 3 0 3 (node 2 2 0 3 (node 2 3 0 1 (leaf_of 2 1 0 1 ∷ []) ∷ Leaf 1 2 ∷ node 2 3 2 3 (leaf_of 2 1 2 3 ∷ []) ∷ []) ∷ []) ∷ []) ∷ []) ∷ [])
