-- Values: names that are compared, and a number that is read and counted down.
use Rattle.std.specs.Prelude.{[], ◌∷◌, Some, codes, pos, None}
use Rattle.ig_text.specs.declared.tag.Tag.TheVariants.{Nil}
use Rattle.ig_text.specs.Tree.{Leaf, Node, none}
use Rattle.ig_expr.specs.Expression.{Expression, Integer, Variable, Binary, Of, Same}
use Rattle.ig_expr.specs.declared.kind.Kind.TheVariants.{Int}
use Rattle.ig_expr.specs.declared.operator.Op.TheVariants.{Equal, Greater, Sub}
use Rattle.ig_expr.specs.declared.operator.Function.TheVariants.{Number}
use Rattle.ig_grammar.specs.Symbol.{Literal, OneOf, Call, Label, Guard, Star}
use Rattle.ig_grammar.specs.declared.declaration.Assoc.TheVariants.{Free}
use Rattle.ig_grammar.specs.declared.declaration.DeclKind.TheVariants.{Syntax, Lexical}
use Rattle.ig_grammar.specs.declared.declaration.Decl.{Decl}
use Rattle.ig_grammar.specs.declared.grammar.Grammar.{Grammar}
use Rattle.ig_meaning_examples.specs.Exactly.{Permits}
use Rattle.ig_meaning_examples.specs.Notation.{letter, digit, plain, level, rule, word_of, name_of, root, node}

-- `start El; syntax El = "<" n: Name ">" El* "</" m: Name ">" when (same(n, m)); lexical Name = [a-z]+ !>> [a-z];`
abbrev pub elements : Grammar
elements =
    record {
      start = Some (codes "El");
      tabs = None;
      decls =
          rule Syntax (codes "El") (Literal (codes "<") ∷ Label (codes "n") (plain (codes "Name")) ∷ Literal (codes ">") ∷ Star (plain (codes "El")) ∷ Literal (codes "</") ∷ Label (codes "m") (plain (codes "Name")) ∷ Literal (codes ">") ∷ Guard (Same (Variable (codes "n")) (Variable (codes "m"))) ∷ []) ∷ rule Lexical (codes "Name") (word_of letter ∷ []) ∷ [];
    }

-- an element ends with the name with which it begins
pub record NamesAreCompared : Type 0 where
  pub same_name : Permits elements (codes "<a></a>") 8 (root 7 (node 1 1 0 7 (Leaf 0 1 ∷ name_of 2 1 1 ∷ Leaf 2 3 ∷ Node Nil 3 3 none ∷ Leaf 3 5 ∷ name_of 2 5 1 ∷ Leaf 6 7 ∷ []) ∷ []) ∷ [])
  pub other_name : Permits elements (codes "<a></b>") 8 []

abbrev pub k : Expression
k = Variable (codes "k")

-- `syntax Body(k: int) = when (k == 0) | when (k > 0) [a-z] Body(k - 1);`
abbrev pub body : Decl
body =
    record {
      kind = Syntax;
      name = codes "Body";
      params = record { name = codes "k"; kind = Int } ∷ [];
      levels =
          level Free ((Guard (Binary Equal k (Integer (pos 0))) ∷ []) ∷ (Guard (Binary Greater k (Integer (pos 0))) ∷ OneOf letter ∷ Call (codes "Body") (Binary Sub k (Integer (pos 1)) ∷ []) ∷ []) ∷ []) ∷ [];
    }

-- `start S; syntax S = "{" n: Num "}" Body(number(n)); lexical Num = [0-9]+ !>> [0-9];` and Body
abbrev pub counted : Grammar
counted =
    record {
      start = Some (codes "S");
      tabs = None;
      decls =
          rule Syntax (codes "S") (Literal (codes "{") ∷ Label (codes "n") (plain (codes "Num")) ∷ Literal (codes "}") ∷ Call (codes "Body") (Of Number (Variable (codes "n")) ∷ []) ∷ []) ∷ rule Lexical (codes "Num") (word_of digit ∷ []) ∷ body ∷ [];
    }

-- as many letters as the number says
pub record LettersAreCounted : Type 0 where
  pub three : Permits counted (codes "{3}abc") 8 (root 6 (node 1 1 0 6 (Leaf 0 1 ∷ name_of 2 1 1 ∷ Leaf 2 3 ∷ node 3 2 3 6 (Leaf 3 4 ∷ node 3 2 4 6 (Leaf 4 5 ∷ node 3 2 5 6 (Leaf 5 6 ∷ node 3 1 6 6 [] ∷ []) ∷ []) ∷ []) ∷ []) ∷ []) ∷ [])
  pub too_many : Permits counted (codes "{2}abc") 8 []
