-- A grammar of one declaration without alternatives.
use Rattle.std.specs.Prelude.{ℕ, List, [], ◌∷◌, Some, None}
use Rattle.ig_grammar.specs.declared.declaration.DeclKind.TheVariants.{Syntax}
use Rattle.ig_grammar.specs.declared.declaration.Decl.{Decl}
use Rattle.ig_grammar.specs.declared.grammar.Grammar.{Grammar}

abbrev pub barren : List ℕ → Decl
barren name = record { kind = Syntax; name = name; params = []; levels = [] }

abbrev pub barren_grammar : List ℕ → Grammar
barren_grammar name = record { start = Some name; tabs = None; decls = barren name ∷ [] }
