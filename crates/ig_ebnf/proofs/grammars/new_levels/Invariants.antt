use Rattle.std.proofs.Common.{◌≡◌, ◌++◌, ◌+◌, ◌<◌, drop}
use Rattle.ig_grammar.specs.Visible.{parameters}
use Rattle.ig_pass.specs.Added.{numbers_bound}
use Rattle.ig_ebnf_variables.specs.Lists.{new_levels, count_levels}
use Rattle.ig_ebnf.proofs.grammars.new_levels.Given as goal

abbrev pub invariant-loop-level : goal.invariant-loop-level
invariant-loop-level l = record {
  lowered : l.all ++ new_levels l.decl.name (parameters l.decl.params) l.next (drop l.level-index l.level-items) ≡
      new_levels l.decl.name (parameters l.decl.params) 1 l.level-items;
  fits : l.next < numbers_bound;
  counted : l.next + count_levels (drop l.level-index l.level-items) ≡ 1 + count_levels l.level-items;
}
