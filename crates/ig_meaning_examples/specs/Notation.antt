-- Parts of grammars, as they are written most often.
use Rattle.std.specs.Prelude.{ℕ, List, [], ◌∷◌, map, false, ◌+◌, Some, codes, None}
use Rattle.ig_text.specs.declared.class.Class.{Class}
use Rattle.ig_text.specs.declared.class.Class.TheVariants.{Ranges}
use Rattle.ig_text.specs.declared.pattern.Pattern.TheVariants as pattern
use Rattle.ig_text.specs.declared.tag.Tag.TheVariants.{Rule, Nil, Snoc, One, More, GroupAlt, Root}
use Rattle.ig_text.specs.Tree.{Tree, Trees, Leaf, Node, none, more, one}
use Rattle.ig_grammar.specs.Symbol.{Symbol, OneOf, Call, Plus, Star, Filtered, Group, no_alternatives, next_alternative, gathered}
use Rattle.ig_grammar.specs.declared.filter.Filter.TheVariants.{NotFollowed}
use Rattle.ig_grammar.specs.declared.declaration.Assoc.{Assoc}
use Rattle.ig_grammar.specs.declared.declaration.Assoc.TheVariants.{Free}
use Rattle.ig_grammar.specs.declared.declaration.DeclKind.{DeclKind}
use Rattle.ig_grammar.specs.declared.declaration.DeclKind.TheVariants.{Syntax, Lexical, Layout}
use Rattle.ig_grammar.specs.declared.declaration.Level.{Level}
use Rattle.ig_grammar.specs.declared.declaration.Decl.{Decl}
use Rattle.ig_grammar.specs.declared.grammar.Grammar.{Grammar}

-- the characters from the first to the last
abbrev pub range : ℕ → ℕ → Class
range first last = Ranges false ((first, last) ∷ [])

-- `[a-z]`
abbrev pub letter : Class
letter = range 97 122

-- `[0-9]`
abbrev pub digit : Class
digit = range 48 57

-- a blank or a line end
abbrev pub blank : Class
blank = Ranges false ((10, 10) ∷ (32, 32) ∷ [])

-- one character of a class or more, and none behind them
abbrev pub word_of : Class → Symbol
word_of class = Filtered (Plus (OneOf class)) (NotFollowed (pattern.OneOf class) ∷ [])

-- symbols in parentheses
abbrev pub together : List Symbol → Symbol
together symbols = Group (next_alternative (gathered symbols) no_alternatives)

-- a call without arguments
abbrev pub plain : List ℕ → Symbol
plain name = Call name []

abbrev pub level : Assoc → List (List Symbol) → Level
level assoc alternatives = record { assoc = assoc; alts = map (λ xs. record { symbols = xs }) alternatives }

-- a declaration without parameters
abbrev pub declaration : DeclKind → List ℕ → List Level → Decl
declaration kind name levels = record { kind = kind; name = name; params = []; levels = levels }

-- a declaration without parameters and levels
abbrev pub choices : DeclKind → List ℕ → List (List Symbol) → Decl
choices kind name alternatives = declaration kind name (level Free alternatives ∷ [])

-- a declaration without parameters, of one alternative
abbrev pub rule : DeclKind → List ℕ → List Symbol → Decl
rule kind name symbols = choices kind name (symbols ∷ [])

-- `layout W = [ \n]* !>> [ \n];`
abbrev pub layout : Decl
layout =
    rule Layout (codes "W") (Filtered (Star (OneOf blank)) (NotFollowed (pattern.OneOf blank) ∷ []) ∷ [])

-- `lexical Id = [a-z]+ !>> [a-z];`
abbrev pub identifiers : Decl
identifiers = rule Lexical (codes "Id") (word_of letter ∷ [])

-- `start S;`, a syntax declaration `S` of one alternative, and the other declarations
abbrev pub one_rule : List Symbol → List Decl → Grammar
one_rule symbols others = record { start = Some (codes "S"); tabs = None; decls = rule Syntax (codes "S") symbols ∷ others }

-- the trees in order
abbrev pub trees : List Tree → Trees
trees [] = none
trees (t ∷ ts) = more t (trees ts)

-- the list `X+` of n characters from i on: ($more i.. ($one i.. ..) ..)
abbrev pub characters : ℕ → ℕ → Tree
characters i ℕ.zero = Leaf i i
characters i (ℕ.suc ℕ.zero) = Node One i (i + 1) (one (Leaf i (i + 1)))
characters i (ℕ.suc (ℕ.suc n)) =
    Node More i (i + n + 2) (more (characters i (ℕ.suc n)) (one (Leaf (i + n + 1) (i + n + 2))))

-- the list `X*` of n characters from i on: ($snoc i.. ($nil i..i) ..)
abbrev pub blanks : ℕ → ℕ → Tree
blanks i ℕ.zero = Node Nil i i none
blanks i (ℕ.suc n) = Node Snoc i (i + n + 1) (more (blanks i n) (one (Leaf (i + n) (i + n + 1))))

-- the token of n characters from i on by alternative 1 of declaration d
abbrev pub name_of : ℕ → ℕ → ℕ → Tree
name_of d i n = Node (Rule d 1) i (i + n) (one (characters i n))

-- layout of n characters from i on, by declaration d
abbrev pub gap : ℕ → ℕ → ℕ → Tree
gap d i n = Node (Rule d 1) i (i + n) (one (blanks i n))

-- the tree of a text of n characters
abbrev pub root : ℕ → List Tree → Tree
root n ts = Node Root 0 n (trees ts)

-- a node by alternative k of declaration d
abbrev pub node : ℕ → ℕ → ℕ → ℕ → List Tree → Tree
node d k i j ts = Node (Rule d k) i j (trees ts)

-- a node by alternative k of declaration d, of one leaf
abbrev pub leaf_of : ℕ → ℕ → ℕ → ℕ → Tree
leaf_of d k i j = node d k i j (Leaf i j ∷ [])

-- a group by its alternative k
abbrev pub group : ℕ → ℕ → ℕ → List Tree → Tree
group k i j ts = Node (GroupAlt k) i j (trees ts)
