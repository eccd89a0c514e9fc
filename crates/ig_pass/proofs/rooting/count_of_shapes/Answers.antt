use Rattle.std.proofs.Common.{◌∙◌, ap, length, sym}
use Rattle.ig_grammar.specs.declared.grammar.Grammar.{Grammar}
use Rattle.ig_pass.proofs.rooting.count_of_shapes.Goals as goal

pub returns : goal.returns
returns c = c.len.ensures ∙ ap (λ (g : Grammar). length g.decls) c.grammar.ensures.same ∙ sym c.grammar.ensures.fit.counted
