use Rattle.std.proofs.Common.{◌∙◌, ap, sym, subst}
use Rattle.ig_grammar.specs.Checked.{FitShapes}
use Rattle.ig_grammar.specs.WellScoped.{IsWellScoped}
use Rattle.ig_lexical.specs.Layout.{laid_grammar}
use Rattle.ig_lexical.proofs.layout.lay_rooted.Goals as goal

pub with_shapes-requires-clause-scoped : goal.with_shapes-requires-clause-scoped
with_shapes-requires-clause-scoped c =
    subst IsWellScoped (sym (c.in_ok-grammar.ensures ∙ ap laid_grammar c.grammar.ensures.same)) c.requires.scoped

pub with_shapes-requires-clause-fit : goal.with_shapes-requires-clause-fit
with_shapes-requires-clause-fit c =
    subst (λ g. FitShapes g c.in_ok-shapes.shapes) (sym (c.in_ok-grammar.ensures ∙ ap laid_grammar c.grammar.ensures.same))
    (subst (FitShapes (laid_grammar c.args.checked.now.grammar)) (sym c.in_ok-shapes.ensures) c.requires.fit)
