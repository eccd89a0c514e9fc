use Rattle.std.proofs.Common.{drop}
use Rattle.ig_ebnf_variables.specs.Lists.{all_added}
use Rattle.ig_ebnf.proofs.CodeOfGrowth.{Leads}
use Rattle.ig_ebnf.proofs.grammars.add_declarations.Given as goal

abbrev pub invariant-loop-decl : goal.invariant-loop-decl
invariant-loop-decl l = Leads l.initial.all (all_added l.decls) l.all (all_added (drop l.decl-index l.decls))
