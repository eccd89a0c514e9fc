use Rattle.std.proofs.Common.{drop}
use Rattle.ig_grammar.specs.Visible.{parameters}
use Rattle.ig_ebnf_variables.specs.Lists.{added_levels}
use Rattle.ig_ebnf.proofs.CodeOfGrowth.{Leads}
use Rattle.ig_ebnf.proofs.grammars.add_levels.Given as goal

abbrev pub invariant-loop-level : goal.invariant-loop-level
invariant-loop-level l =
    Leads l.initial.all (added_levels l.decl.name (parameters l.decl.params) 1 l.level-items) l.all
    (added_levels l.decl.name (parameters l.decl.params) l.next (drop l.level-index l.level-items))
