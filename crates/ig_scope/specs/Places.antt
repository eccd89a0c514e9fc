-- The numbers of places have 32 bits.
use Rattle.std.specs.Prelude.{◌<◌, List, Contains, length}
use Rattle.ig_text.specs.Limits.{numbers_end}
use Rattle.ig_grammar.specs.declared.declaration.Decl.{Decl}
use Rattle.ig_scope.specs.AlternativePlaces.{HaveNumberedAlternatives, HaveNumberedSymbols}

-- the declarations have such numbers, and so has what is in each
pub record AreNumbered (decls : List Decl) : Type 0 where
  pub declarations : length decls < numbers_end
  pub alternatives : (decl : Decl) → Contains decls decl → HaveNumberedAlternatives decl
  pub symbols : (decl : Decl) → Contains decls decl → HaveNumberedSymbols decl
