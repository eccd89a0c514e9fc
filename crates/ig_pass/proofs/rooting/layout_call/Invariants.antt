use Rattle.std.proofs.Common.{◌≡◌, drop, []}
use Rattle.ig_grammar.specs.Numbering.{layout_among}
use Rattle.ig_pass.proofs.rooting.layout_call.Given as goal

abbrev pub invariant-loop-decl : goal.invariant-loop-decl
invariant-loop-decl l = (l.symbols ≡ []) × (layout_among (drop l.decl-index l.decls) ≡ layout_among l.decls)
