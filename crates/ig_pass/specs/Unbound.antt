-- Names that nothing in a grammar binds or reads, as those that a pass adds are before it.
use Rattle.std.specs.Prelude.{ℕ, List, [], ◌∷◌, ◌++◌, map, All, Contains}
use Rattle.std.specs.List.{flat_map}
use Rattle.ig_grammar.specs.Symbol.{Symbol, Label, Let, Entry}
use Rattle.ig_grammar.specs.Subterms.{subterms_of_alternatives}
use Rattle.ig_grammar.specs.Condition.{expressions, variables}
use Rattle.ig_grammar.specs.Regular.{OfEachLevel}
use Rattle.ig_grammar.specs.declared.declaration.Decl.{Decl}
use Rattle.ig_grammar.specs.declared.grammar.Grammar.{Grammar}

-- what a symbol itself binds: its label, its let, the bindings of its entry
abbrev pub own_binders : Symbol → List (List ℕ)
own_binders (Label name x) = name ∷ []
own_binders (Let name e) = name ∷ []
own_binders (Entry bindings x) = map (λ b. b.name) bindings
own_binders x = []

-- and the variables of its expressions
abbrev pub own_variables : Symbol → List (List ℕ)
own_variables x = own_binders x ++ flat_map variables (expressions x)

-- the symbol itself neither binds nor reads the name
abbrev pub LacksName : List ℕ → Symbol → Type 0
LacksName name x = Contains (own_variables x) name → ⊥

pub record IsUnbound (g : Grammar) (name : List ℕ) : Type 0 where
  pub parameters : (decl : Decl) → Contains g.decls decl → Contains (map (λ p. p.name) decl.params) name → ⊥
  pub symbols : OfEachLevel (λ choices. All (LacksName name) (subterms_of_alternatives choices)) g
