use Rattle.std.proofs.Common.{◌≡◌, drop}
use Rattle.ig_blocks_parts.specs.Blocks.{is_marked}
use Rattle.ig_blocks_parts.proofs.marks.is_marked.Given as goal

abbrev pub invariant-loop-decl : goal.invariant-loop-decl
invariant-loop-decl l = is_marked (drop l.decl-index l.decls) ≡ is_marked l.decls
