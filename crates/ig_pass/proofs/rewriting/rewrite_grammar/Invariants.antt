use Rattle.std.proofs.Common.{◌≡◌, map, take}
use Rattle.ig_pass.specs.Rewriting.{rewritten_declaration}
use Rattle.ig_pass.proofs.rewriting.rewrite_grammar.Given as goal

abbrev pub invariant-loop-decl : goal.invariant-loop-decl
invariant-loop-decl g l = l.decls ≡ map (rewritten_declaration (g.O.OwnRule.rule l.own)) (take l.decl-index l.decl-items)
