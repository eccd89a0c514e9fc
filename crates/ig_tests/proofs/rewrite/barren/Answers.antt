use Rattle.std.proofs.Common.{◌∙◌, ap, length, subst, sym}
use Rattle.ig_tests.specs.Barren.{barren_grammar}
use Rattle.ig_tests.proofs.Barren.{barren_is_scoped}
use Rattle.ig_grammar.specs.Checked.{rules}
use Rattle.ig_grammar.specs.WellScoped.{IsWellScoped}
use Rattle.ig_tests.proofs.rewrite.barren.Goals as goal

pub of-requires : goal.of-requires
of-requires c = subst IsWellScoped (sym c.in_ok-barren_grammar.ensures) (barren_is_scoped _)

pub returns : goal.returns
returns c = record {
  grammar = c.of.ensures.grammar ∙ c.in_ok-barren_grammar.ensures ∙ ap barren_grammar c.in_ok-name.ensures;
  shapes = ap length c.of.ensures.shapes ∙ ap (λ g. length (rules g)) c.in_ok-barren_grammar.ensures;
}
