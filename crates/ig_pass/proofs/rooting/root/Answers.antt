use Rattle.std.proofs.Common.{◌∙◌, [], ◌∷◌, ◌++◌, ap, sym}
use Rattle.ig_grammar.specs.declared.declaration.DeclKind.TheVariants.{Syntax}
use Rattle.ig_grammar.specs.declared.place.Shape.TheVariants.{Root}
use Rattle.ig_pass.specs.Rooted.{rooted_grammar}
use Rattle.ig_pass.proofs.RootCode.{fits_with_root}
use Rattle.ig_pass.proofs.rooting.root.Goals as goal

pub with_shapes-requires-2-clause-fit : goal.with_shapes-requires-2-clause-fit
with_shapes-requires-2-clause-fit c =
    fits_with_root c.rooted_is_the_same.ensures c.args.checked.now c.in_ok-grammar.grammar c.push_shape.new.all
    c.grammar-grammar.ensures.scoped c.grammar-grammar.ensures.fit (sym c.has_root.ensures ∙ c.if-has_root.false) c.requires.fresh
    (c.in_ok-grammar.ensures ∙ ap (rooted_grammar Syntax) c.grammar-grammar.ensures.same)
    (c.in_ok-push_shape.ensures ∙ ap (λ s. s ++ Root ∷ []) c.in_ok-shapes.ensures)
