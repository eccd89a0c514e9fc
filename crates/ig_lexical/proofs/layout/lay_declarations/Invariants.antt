use Rattle.std.proofs.Common.{◌≡◌, map, take}
use Rattle.ig_lexical.specs.Layout.{laid_declaration}
use Rattle.ig_lexical.proofs.layout.lay_declarations.Given as goal

abbrev pub invariant-loop-decl : goal.invariant-loop-decl
invariant-loop-decl l = l.all ≡ map (laid_declaration l.guide) (take l.decl-index l.decls)
