use Rattle.std.proofs.Common.{◌≡◌, None, sym, subst}
use Rattle.std.specs.Prelude.{IfOk}
use Rattle.ig_grammar.specs.Checked.{CheckedGrammar}
use Rattle.ig_grammar.specs.Numbering.{layout_among}
use Rattle.ig_pass.specs.Sound.{IsSound, IsFree, IsUnmarked}
use Rattle.ig_lexical.specs.Filters.{FiltersOf}
use Rattle.ig_core.proofs.lowering.open_layout.Goals as goal

pub attach_filters-made-requires-clause-sound : goal.attach_filters-made-requires-clause-sound
attach_filters-made-requires-clause-sound c =
    subst (λ (z : CheckedGrammar). IsSound z) (sym c.in_ok-laid_out.ensures)
    (c.layout_keeps.ensures c.args.checked.now c.requires.sound c.requires.free c.requires.unmarked).sound

pub attach_filters-made-requires-clause-free : goal.attach_filters-made-requires-clause-free
attach_filters-made-requires-clause-free c =
    subst (λ (z : CheckedGrammar). IsFree z.grammar) (sym c.in_ok-laid_out.ensures)
    (c.layout_keeps.ensures c.args.checked.now c.requires.sound c.requires.free c.requires.unmarked).free

pub attach_filters-made-requires-clause-unmarked : goal.attach_filters-made-requires-clause-unmarked
attach_filters-made-requires-clause-unmarked c =
    subst (λ (z : CheckedGrammar). IsUnmarked z.grammar) (sym c.in_ok-laid_out.ensures)
    (c.layout_keeps.ensures c.args.checked.now c.requires.sound c.requires.free c.requires.unmarked).unmarked

pub attach_filters-made-requires-clause-no_layout : goal.attach_filters-made-requires-clause-no_layout
attach_filters-made-requires-clause-no_layout c =
    subst (λ (z : CheckedGrammar). layout_among z.grammar.decls ≡ None) (sym c.in_ok-laid_out.ensures)
    (c.layout_keeps.ensures c.args.checked.now c.requires.sound c.requires.free c.requires.unmarked).no_layout

pub returns : goal.returns
returns c =
    subst (λ (z : CheckedGrammar). IfOk c.attach_filters-made.result (λ r. r ≡ FiltersOf z)) c.in_ok-laid_out.ensures
    c.attach_filters-made.ensures
