-- Grammars as the notation can say them.
use Rattle.std.specs.Prelude.{◌≢◌, All, Contains}
use Rattle.ig_grammar.specs.Numbering.{as_written}
use Rattle.ig_grammar.specs.Regular.{OfEachLevel, AlternativesStandWell}
use Rattle.ig_grammar.specs.Subterms.{subterms_of_alternatives}
use Rattle.ig_grammar.specs.Symbol.{Symbol, Entry}
use Rattle.ig_grammar.specs.Checked.{CheckedGrammar}
use Rattle.ig_grammar.specs.WellScoped.{IsWellScoped}
use Rattle.ig_grammar.specs.declared.declaration.Decl.{Decl}
use Rattle.ig_grammar.specs.declared.declaration.DeclKind.TheVariants.{Plain}
use Rattle.ig_grammar.specs.declared.grammar.Grammar.{Grammar}
use Rattle.ig_grammar.specs.Name.{IsName}
use Rattle.ig_pass.specs.Unbound.{own_variables}

-- the symbol is no entry, and what it binds and reads itself are names of the notation
abbrev pub IsSaid : Symbol → Type 0
IsSaid (Entry bindings x) = ⊥
IsSaid x = All IsName (own_variables x)

-- names are those of the notation, no entry stands in it, its parts stand where they may, and no declaration is plain
pub record IsOfNotation (g : Grammar) : Type 0 where
  pub scoped : IsWellScoped g
  pub declared : (decl : Decl) → Contains g.decls decl → IsName decl.name
  pub parameters : (decl : Decl) → Contains g.decls decl → All (λ p. IsName p.name) decl.params
  pub within : OfEachLevel (λ choices. All IsSaid (subterms_of_alternatives choices)) g
  pub well : OfEachLevel AlternativesStandWell g
  pub kinds : (decl : Decl) → Contains g.decls decl → decl.kind ≢ Plain

-- the grammar, which no pass has changed
abbrev pub unchanged : Grammar → CheckedGrammar
unchanged g = record { grammar = g; shapes = as_written g }
