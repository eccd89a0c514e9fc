use Rattle.std.proofs.Common.{◌≡◌, map}
use Rattle.ig_tool.proofs.playing.parsers_of.Given as goal

-- the parsers of the grammars so far
abbrev pub invariant-loop-grammar : goal.invariant-loop-grammar
invariant-loop-grammar l = l.parsers.items ≡ map (λ p. p.0.now) l.yielded
