use Rattle.std.proofs.Common.{ap, sym, subst}
use Rattle.ig_grammar.specs.Checked.{CheckedGrammar, FitShapes}
use Rattle.ig_grammar.specs.WellScoped.{IsWellScoped}
use Rattle.ig_blocks.proofs.Declaring.{result_is, result_same}
use Rattle.ig_blocks.proofs.lowering.lower_blocks.Goals as goal

pub with_shapes-requires-clause-scoped : goal.with_shapes-requires-clause-scoped
with_shapes-requires-clause-scoped c =
    let kept = c.blocks_keep.ensures c.args.checked.now c.requires.sound c.requires.free c.requires.margin c.requires.first c.requires.column c.requires.plain in
    subst (λ (z : CheckedGrammar). IsWellScoped z.grammar)
    (sym (result_is c.args.checked.now c.in_ok-rooted.rooted c.in_ok-grammar.grammar c.in_ok-grammar.shapes c.in_ok-rooted.ensures (ap (λ z. z.0) c.in_ok-grammar.ensures) (ap (λ z. z.1) c.in_ok-grammar.ensures))) kept.sound.scoped

pub with_shapes-requires-clause-fit : goal.with_shapes-requires-clause-fit
with_shapes-requires-clause-fit c =
    let kept = c.blocks_keep.ensures c.args.checked.now c.requires.sound c.requires.free c.requires.margin c.requires.first c.requires.column c.requires.plain in
    subst (λ (z : CheckedGrammar). FitShapes z.grammar z.shapes)
    (sym (result_is c.args.checked.now c.in_ok-rooted.rooted c.in_ok-grammar.grammar c.in_ok-grammar.shapes c.in_ok-rooted.ensures (ap (λ z. z.0) c.in_ok-grammar.ensures) (ap (λ z. z.1) c.in_ok-grammar.ensures))) kept.sound.fit

pub returns : goal.returns
returns c =
    result_same c.args.checked.now c.with_shapes.result c.in_ok-grammar.grammar c.in_ok-grammar.shapes c.with_shapes.ensures.grammar c.with_shapes.ensures.shapes
    (result_is c.args.checked.now c.in_ok-rooted.rooted c.in_ok-grammar.grammar c.in_ok-grammar.shapes c.in_ok-rooted.ensures (ap (λ z. z.0) c.in_ok-grammar.ensures) (ap (λ z. z.1) c.in_ok-grammar.ensures))
