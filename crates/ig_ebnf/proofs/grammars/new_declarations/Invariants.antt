use Rattle.std.proofs.Common.{◌≡◌, ◌<◌, Contains, map, take}
use Rattle.ig_grammar.specs.declared.declaration.Decl.{Decl}
use Rattle.ig_pass.specs.Added.{numbers_bound}
use Rattle.ig_ebnf_variables.specs.Lists.{new_declaration, count_levels}
use Rattle.ig_ebnf.proofs.grammars.new_declarations.Given as goal

abbrev pub invariant-loop-decl : goal.invariant-loop-decl
invariant-loop-decl l = record {
  same : l.all ≡ map new_declaration (take l.decl-index l.decls);
  few : (decl : Decl) → Contains (take l.decl-index l.decls) decl → count_levels decl.levels < numbers_bound;
}
