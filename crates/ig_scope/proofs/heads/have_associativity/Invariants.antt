use Rattle.std.proofs.Common.{take, ◌≢◌}
use Rattle.std.specs.Prelude.{All}
use Rattle.ig_grammar.specs.declared.declaration.Assoc.TheVariants.{Free}
use Rattle.ig_scope.proofs.heads.have_associativity.Given as goal

abbrev pub invariant-loop-level : goal.invariant-loop-level
invariant-loop-level l = All (λ level. (level.assoc ≢ Free) → ⊥) (take l.level-index l.levels)
