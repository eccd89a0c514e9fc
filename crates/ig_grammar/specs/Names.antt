-- Which names a grammar declares.
use Rattle.std.specs.Prelude.{◌≡◌, ℕ, List, map, Some, slice_get}
use Rattle.ig_grammar.specs.declared.declaration.Decl.{Decl}

-- the names of the declarations, in order
abbrev pub names : List Decl → List (List ℕ)
names decls = map (λ d. d.name) decls

-- no name is declared twice
abbrev pub AreDistinct : List (List ℕ) → Type 0
AreDistinct all = (i j : ℕ) (name : List ℕ) → slice_get all i ≡ Some name → slice_get all j ≡ Some name → i ≡ j
