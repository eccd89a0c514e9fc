-- Tables of declared names.
use Rattle.std.specs.Prelude.{◌≡◌, ℕ, List}
use Rattle.indexmap.specs.IndexMap.{IndexMap, get_by}
use denote.Ref.{Bor}
use Rattle.ig_text.specs.Words.{is_word}
use Rattle.ig_expr.specs.Names.{place_of}
use Rattle.ig_grammar.specs.Names.{names}
use Rattle.ig_grammar.specs.declared.declaration.Decl.{Decl}

-- the table has the place of the first declaration of each declared name, and no other name
abbrev pub HasPlaces : {S : Type 0} → IndexMap (Bor (List ℕ)) ℕ S → List Decl → Type 0
HasPlaces table decls = (name : List ℕ) → get_by (λ key. is_word name key.now) table ≡ place_of (names decls) name
