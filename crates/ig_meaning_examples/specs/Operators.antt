-- Operators on levels, and trees that keep to them along whole spines.
use Rattle.std.specs.Prelude.{ℕ, List, [], ◌∷◌, Some, codes, None}
use Rattle.ig_text.specs.Tree.{Tree, Leaf}
use Rattle.ig_grammar.specs.Symbol.{Symbol, OneOf, Literal}
use Rattle.ig_grammar.specs.declared.declaration.Assoc.TheVariants.{Free, Left, Nonassoc}
use Rattle.ig_grammar.specs.declared.declaration.DeclKind.TheVariants.{Syntax}
use Rattle.ig_grammar.specs.declared.declaration.Level.{Level}
use Rattle.ig_grammar.specs.declared.grammar.Grammar.{Grammar}
use Rattle.ig_meaning_examples.specs.Exactly.{Permits}
use Rattle.ig_meaning_examples.specs.Notation.{digit, range, plain, level, declaration, root, node}

-- the symbols of an operator between two operands
abbrev pub between : List ℕ → List Symbol
between operator = plain (codes "E") ∷ Literal operator ∷ plain (codes "E") ∷ []

-- the symbols of an operator behind its operand
abbrev pub behind : List ℕ → List Symbol
behind operator = plain (codes "E") ∷ Literal operator ∷ []

-- a grammar whose one declaration has these levels
abbrev pub grammar_of : List Level → Grammar
grammar_of levels = record { start = Some (codes "E"); tabs = None; decls = declaration Syntax (codes "E") levels ∷ [] }

-- the tree of one character, by alternative 1
abbrev pub atom : ℕ → ℕ → Tree
atom i j = node 1 1 i j (Leaf i j ∷ [])

-- the tree of an operator of one character behind its left operand
abbrev pub binary : ℕ → ℕ → ℕ → ℕ → ℕ → Tree → Tree → Tree
binary k i h m j left right = node 1 k i j (left ∷ Leaf h m ∷ right ∷ [])

-- the tree of an operator of one character in front of its operand
abbrev pub prefix : ℕ → ℕ → ℕ → ℕ → Tree → Tree
prefix k i m j operand = node 1 k i j (Leaf i m ∷ operand ∷ [])

-- the tree of an operator of one character behind its operand
abbrev pub suffix : ℕ → ℕ → ℕ → ℕ → Tree → Tree
suffix k i m j operand = node 1 k i j (operand ∷ Leaf m j ∷ [])

-- `start E; syntax E = [0-9] > left E "*" E > left E "+" E | E "-" E;`
abbrev pub arithmetic : List Level
arithmetic =
    level Free ((OneOf digit ∷ []) ∷ []) ∷ level Left (between (codes "*") ∷ []) ∷ level Left (between (codes "+") ∷ between (codes "-") ∷ []) ∷ []

-- operators of one level group to the left, and a level that binds tighter comes first
pub record LevelsBind : Type 0 where
  pub differences : Permits (grammar_of arithmetic) (codes "1-2-3") 6 (root 5 (binary 4 0 3 4 5 (binary 4 0 1 2 3 (atom 0 1) (atom 2 3)) (atom 4 5) ∷ []) ∷ [])
  pub sum_of_product : Permits (grammar_of arithmetic) (codes "1+2*3") 6 (root 5 (binary 3 0 1 2 5 (atom 0 1) (binary 2 2 3 4 5 (atom 2 3) (atom 4 5)) ∷ []) ∷ [])
  pub cut_off : Permits (grammar_of arithmetic) (codes "1-") 6 []

-- `start E; syntax E = [a-c] > left E "*" E > left E "+" E > "-" E;`
abbrev pub with_sign : List Level
with_sign =
    level Free ((OneOf (range 97 99) ∷ []) ∷ []) ∷ level Left (between (codes "*") ∷ []) ∷ level Left (between (codes "+") ∷ []) ∷ level Free ((Literal (codes "-") ∷ plain (codes "E") ∷ []) ∷ []) ∷ []

-- `start E; syntax E = "a" > E "!" > left E "*" E > E "?";`
abbrev pub with_suffixes : List Level
with_suffixes =
    level Free ((Literal (codes "a") ∷ []) ∷ []) ∷ level Free (behind (codes "!") ∷ []) ∷ level Left (between (codes "*") ∷ []) ∷ level Free (behind (codes "?") ∷ []) ∷ []

pub record SpinesAreWhole : Type 0 where
  -- a sign that binds loosest takes all behind it, also where it stands deep in a left operand
  pub sign_last : Permits (grammar_of with_sign) (codes "a*-b+c") 6 (root 6 (binary 2 0 1 2 6 (atom 0 1) (prefix 4 2 3 6 (binary 3 3 4 5 6 (atom 3 4) (atom 5 6))) ∷ []) ∷ [])
  -- the operand of `!` ends in `?`, so no node on its right spine has a right operand, and nothing is asked of it
  pub suffixes : Permits (grammar_of with_suffixes) (codes "a*a?!") 6 (root 5 (suffix 2 0 4 5 (suffix 4 0 3 4 (binary 3 0 1 2 3 (atom 0 1) (atom 2 3))) ∷ []) ∷ [])

-- `start E; syntax E = [a-c] > nonassoc E "<" E;`
abbrev pub comparison : List Level
comparison = level Free ((OneOf (range 97 99) ∷ []) ∷ []) ∷ level Nonassoc (between (codes "<") ∷ []) ∷ []

-- an operator under `nonassoc` has none of its own level as an operand
pub record ComparisonsStandAlone : Type 0 where
  pub alone : Permits (grammar_of comparison) (codes "a<b") 6 (root 3 (binary 2 0 1 2 3 (atom 0 1) (atom 2 3) ∷ []) ∷ [])
  pub in_a_row : Permits (grammar_of comparison) (codes "a<b<c") 6 []
