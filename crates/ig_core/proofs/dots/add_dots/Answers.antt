use Rattle.std.proofs.Common.{◌∙◌, sym, ap, arith, length}
use Rattle.std.proofs.lemmas.List.{length-map}
use Rattle.ig_grammar.specs.View.{symbol_of}
use Rattle.ig_core.proofs.Whole.{dots_more}
use Rattle.ig_core.proofs.dots.add_dots.Goals as goal

pub loop-alt-preserved : goal.loop-alt-preserved
loop-alt-preserved c = (
  dots_more c.args.alts.now c.loop-alt.alt-index c.alt-item.result c.args.before c.loop-alt.dots _ c.loop-alt-test.true c.alt-item.is
      c.loop-alt.invariant.0 (sym (length-map c.as_slice-symbols.result.now symbol_of) ∙ ap length c.as_slice-symbols.ensures),
  omega (arith, c.if-symbols-dots.false),
)
