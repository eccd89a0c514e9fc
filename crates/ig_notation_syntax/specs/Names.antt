-- The names in a grammar.
use Rattle.std.specs.Prelude.{◌≡◌, ℕ, List, [], ◌∷◌, ◌++◌, Some, All, Contains, map}
use Rattle.std.specs.List.{flat_map}
use Rattle.ig_notation_syntax.specs.Token as token
use Rattle.ig_notation_syntax.specs.Token.{Token}
use Rattle.ig_grammar.specs.Symbol.{Symbol, Call, Label, Let, Entry}
use Rattle.ig_grammar.specs.Subterms.{subterms_of_alternatives}
use Rattle.ig_grammar.specs.Condition.{expressions, variables}
use Rattle.ig_grammar.specs.Regular.{OfEachLevel}
use Rattle.ig_grammar.specs.declared.declaration.Decl.{Decl}
use Rattle.ig_grammar.specs.declared.grammar.Grammar.{Grammar}
use Rattle.ig_grammar.specs.Name.{IsName}

-- what a symbol itself calls or binds
abbrev pub called_or_bound : Symbol → List (List ℕ)
called_or_bound (Call name arguments) = name ∷ []
called_or_bound (Label name x) = name ∷ []
called_or_bound (Let name e) = name ∷ []
called_or_bound (Entry bindings x) = map (λ b. b.name) bindings
called_or_bound x = []

-- and the variables of its expressions
abbrev pub own_names : Symbol → List (List ℕ)
own_names x = called_or_bound x ++ flat_map variables (expressions x)

-- each name in the grammar is a name of the notation
pub record HasNames (g : Grammar) : Type 0 where
  pub start : (name : List ℕ) → g.start ≡ Some name → IsName name
  pub declared : (decl : Decl) → Contains g.decls decl → IsName decl.name
  pub parameters : (decl : Decl) → Contains g.decls decl → All (λ p. IsName p.name) decl.params
  pub within : OfEachLevel (λ ys. All (λ x. All IsName (own_names x)) (subterms_of_alternatives ys)) g

-- a token that has a name has one of the notation
abbrev pub HasName : Token → Type 0
HasName (token.Name x) = IsName x
HasName (token.Head x) = IsName x
HasName t = Unit {0}
