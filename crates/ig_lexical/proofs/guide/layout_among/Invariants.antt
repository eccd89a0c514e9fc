use Rattle.std.proofs.Common.{◌≡◌, drop}
use Rattle.ig_grammar.specs.Numbering.{layout_among}
use Rattle.ig_lexical.proofs.guide.layout_among.Given as goal

abbrev pub invariant-loop-decl : goal.invariant-loop-decl
invariant-loop-decl l = layout_among (drop l.decl-index l.decls) ≡ layout_among l.decls
