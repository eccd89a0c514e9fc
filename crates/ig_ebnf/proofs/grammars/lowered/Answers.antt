use Rattle.std.proofs.Common.{◌∙◌, ap}
use Rattle.ig_grammar.specs.declared.grammar.Grammar.{Grammar}
use Rattle.ig_ebnf.proofs.CodeOfPass.{made_is_scoped, made_fits}
use Rattle.ig_ebnf.proofs.grammars.lowered.Goals as goal

pub with_shapes-requires-clause-scoped : goal.with_shapes-requires-clause-scoped
with_shapes-requires-clause-scoped c =
    made_is_scoped c.lowering_keeps.ensures c.args.checked.now c.requires.sound c.requires.free c.requires.unmarked
    c.requires.no_layout c.requires.excluding
    c.in_ok-all.ensures.few c.in_ok-start.start c.grammar-source.result.now.tabs c.in_ok-all.all.decls
    (c.in_ok-start.ensures ∙ ap (λ (g : Grammar). g.start) c.grammar-source.ensures.same)
    (ap (λ (g : Grammar). g.tabs) c.grammar-source.ensures.same) c.in_ok-all.ensures.decls

pub with_shapes-requires-clause-fit : goal.with_shapes-requires-clause-fit
with_shapes-requires-clause-fit c =
    made_fits c.lowering_keeps.ensures c.args.checked.now c.requires.sound c.requires.free c.requires.unmarked
    c.requires.no_layout c.requires.excluding
    c.in_ok-all.ensures.few c.in_ok-start.start c.grammar-source.result.now.tabs c.in_ok-all.all.decls c.in_ok-all.all.shapes
    (c.in_ok-start.ensures ∙ ap (λ (g : Grammar). g.start) c.grammar-source.ensures.same)
    (ap (λ (g : Grammar). g.tabs) c.grammar-source.ensures.same) c.in_ok-all.ensures.decls
    c.in_ok-all.ensures.shapes
