use Rattle.std.proofs.Common.{◌≡◌, map}
use Rattle.ig_tool.specs.declared.grammars.Kept.{Kept}
use Rattle.ig_tool.proofs.playing.parted.Given as goal

-- those so far
abbrev pub invariant-loop-grammar : goal.invariant-loop-grammar
invariant-loop-grammar l = record {
  grammars : l.grammars.items ≡ map (λ (k : Kept). k.grammar) l.yielded;
  cores : l.cores.items ≡ map (λ (k : Kept). k.core) l.yielded;
}
