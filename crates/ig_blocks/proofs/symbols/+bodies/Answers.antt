use Rattle.std.proofs.Common.{◌≡◌, ◌∙◌, ◌++◌, IfOk, false, true, arith, refl, sym, subst, ap, ap₂}
use denote.Param.Weighed.{at_most}
use Rattle.ig_grammar.specs.Symbol as tree
use Rattle.ig_grammar.specs.Symbol.{gathered}
use Rattle.ig_grammar.specs.View.{symbol_of}
use Rattle.ig_grammar.specs.CodingAlternatives.{alternatives_nodes}
use Rattle.ig_grammar.specs.CodingFalls.{most_alternatives, most_symbols}
use Rattle.ig_grammar.specs.CodingSizes.{list_nodes}
use Rattle.ig_grammar.specs.declared.symbol.Alts.TheDeep.{deep-Symbol, deep-Alt}
use Rattle.ig_blocks_parts.specs.Setting.{pair_bindings}
use Rattle.ig_blocks_parts.specs.Body.{body_of}
use Rattle.ig_blocks_parts.specs.ColumnCode.{pair_of, setting_by}
use Rattle.ig_blocks_parts.specs.FormCode.{item_by, list_by}
use Rattle.ig_blocks.proofs.Bodies.{copied, formed, separated, grouped, told_inside, choices_told, one_more}
use Rattle.ig_blocks.proofs.symbols.+bodies.Goals as goal

pub body-returns-in-Literal : goal.body-returns-in-Literal
body-returns-in-Literal t c =
    copied (setting_by c.args.guide.now) c.args.aligned (pair_of c.args.pair.now) c.copy.result c.args.symbol.now _ c.in-Literal.is c.copy.ensures refl

pub body-returns-in-Class : goal.body-returns-in-Class
body-returns-in-Class t c =
    copied (setting_by c.args.guide.now) c.args.aligned (pair_of c.args.pair.now) c.copy-in-Class.result c.args.symbol.now _ c.in-Class.is c.copy-in-Class.ensures refl

pub body-returns-in-Guard : goal.body-returns-in-Guard
body-returns-in-Guard t c =
    copied (setting_by c.args.guide.now) c.args.aligned (pair_of c.args.pair.now) c.copy-in-Guard.result c.args.symbol.now _ c.in-Guard.is c.copy-in-Guard.ensures refl

pub body-returns-in-Let : goal.body-returns-in-Let
body-returns-in-Let t c =
    copied (setting_by c.args.guide.now) c.args.aligned (pair_of c.args.pair.now) c.copy-in-Let.result c.args.symbol.now _ c.in-Let.is c.copy-in-Let.ensures refl

pub body-returns-in-Call : goal.body-returns-in-Call
body-returns-in-Call t c =
    formed (setting_by c.args.guide.now) c.args.aligned (pair_of c.args.pair.now) c.called.result c.args.symbol.now _ _ c.in-Call.is c.called.ensures refl

pub body-returns-in_ok-body_inner-in-Label : goal.body-returns-in_ok-body_inner-in-Label
body-returns-in_ok-body_inner-in-Label t c =
    formed (setting_by c.args.guide.now) c.args.aligned (pair_of c.args.pair.now) c.labelled.result c.args.symbol.now _ _ c.in-Label.is c.labelled.ensures (ap (tree.Label c.in-Label.name) c.in_ok-body_inner-in-Label.ensures)

pub body-returns-in_ok-item-in-Opt : goal.body-returns-in_ok-item-in-Opt
body-returns-in_ok-item-in-Opt t c =
    formed (setting_by c.args.guide.now) c.args.aligned (pair_of c.args.pair.now) c.optional.result c.args.symbol.now _ _ c.in-Opt.is c.optional.ensures
    (ap₂ (λ x y. list_by (setting_by c.args.guide.now) false (pair_of c.args.pair.now) (tree.Opt (item_by (setting_by c.args.guide.now) false (pair_of c.args.pair.now) x y))) c.as_symbol.ensures c.in_ok-item-in-Opt.ensures)

pub body-returns-in_ok-item-in-Star : goal.body-returns-in_ok-item-in-Star
body-returns-in_ok-item-in-Star t c =
    formed (setting_by c.args.guide.now) c.args.aligned (pair_of c.args.pair.now) c.starred.result c.args.symbol.now _ _ c.in-Star.is c.starred.ensures
    (ap₂ (λ x y. list_by (setting_by c.args.guide.now) c.args.aligned (pair_of c.args.pair.now) (tree.Star (item_by (setting_by c.args.guide.now) c.args.aligned (pair_of c.args.pair.now) x y))) c.as_symbol-in-Star.ensures c.in_ok-item-in-Star.ensures)

pub body-returns-in_ok-item-in-Plus : goal.body-returns-in_ok-item-in-Plus
body-returns-in_ok-item-in-Plus t c =
    formed (setting_by c.args.guide.now) c.args.aligned (pair_of c.args.pair.now) c.repeated.result c.args.symbol.now _ _ c.in-Plus.is c.repeated.ensures
    (ap₂ (λ x y. list_by (setting_by c.args.guide.now) c.args.aligned (pair_of c.args.pair.now) (tree.Plus (item_by (setting_by c.args.guide.now) c.args.aligned (pair_of c.args.pair.now) x y))) c.as_symbol-in-Plus.ensures c.in_ok-item-in-Plus.ensures)

pub body-returns-in_ok-first-in-SepStar : goal.body-returns-in_ok-first-in-SepStar
body-returns-in_ok-first-in-SepStar t c =
    formed (setting_by c.args.guide.now) c.args.aligned (pair_of c.args.pair.now) c.entered_by.result c.args.symbol.now _ _ c.in-SepStar.is c.entered_by.ensures
    (separated (setting_by c.args.guide.now) c.args.aligned (pair_of c.args.pair.now) tree.SepStar c.in-SepStar.inner (symbol_of c.as_symbol-in-SepStar.result.now) c.in-SepStar.separator c.in_ok-head-in-SepStar.head
    c.in_ok-first-in-SepStar.first c.in_ok-first-in-SepStar.second (symbol_of c.in_ok-item-in-SepStar.item)
    c.in_ok-head-in-SepStar.ensures (ap (λ z. z.0) c.in_ok-first-in-SepStar.ensures) (ap (λ z. z.1) c.in_ok-first-in-SepStar.ensures) c.as_symbol-in-SepStar.ensures c.in_ok-item-in-SepStar.ensures)

pub body-returns-in_ok-first-in-SepPlus : goal.body-returns-in_ok-first-in-SepPlus
body-returns-in_ok-first-in-SepPlus t c =
    formed (setting_by c.args.guide.now) c.args.aligned (pair_of c.args.pair.now) c.entered_by-in-SepPlus.result c.args.symbol.now _ _ c.in-SepPlus.is c.entered_by-in-SepPlus.ensures
    (separated (setting_by c.args.guide.now) c.args.aligned (pair_of c.args.pair.now) tree.SepPlus c.in-SepPlus.inner (symbol_of c.as_symbol-in-SepPlus.result.now) c.in-SepPlus.separator c.in_ok-head-in-SepPlus.head
    c.in_ok-first-in-SepPlus.first c.in_ok-first-in-SepPlus.second (symbol_of c.in_ok-item-in-SepPlus.item)
    c.in_ok-head-in-SepPlus.ensures (ap (λ z. z.0) c.in_ok-first-in-SepPlus.ensures) (ap (λ z. z.1) c.in_ok-first-in-SepPlus.ensures) c.as_symbol-in-SepPlus.ensures c.in_ok-item-in-SepPlus.ensures)

pub body-returns-in_ok-lowered-in-Group : goal.body-returns-in_ok-lowered-in-Group
body-returns-in_ok-lowered-in-Group t c =
    formed (setting_by c.args.guide.now) c.args.aligned (pair_of c.args.pair.now) c.entered_by-in-Group.result c.args.symbol.now _ _ c.in-Group.is c.entered_by-in-Group.ensures
    (grouped (setting_by c.args.guide.now) c.args.aligned (pair_of c.args.pair.now) (c.all_are_gathered.ensures _ _) c.in-Group.alternatives c.in_ok-lowered-in-Group.lowered c.in_ok-lowered-in-Group.ensures)

pub body-returns-in_ok-pair-in-Offside : goal.body-returns-in_ok-pair-in-Offside
body-returns-in_ok-pair-in-Offside t c =
    formed (setting_by c.args.guide.now) c.args.aligned (pair_of c.args.pair.now) c.body-made.result c.args.symbol.now _ _ c.in-Offside.is c.body-made.ensures (ap₂ (body_of (setting_by c.args.guide.now) c.args.aligned) c.in_ok-pair-in-Offside.ensures c.as_symbol-in-Offside.ensures)

pub body-returns-in-Ignore : goal.body-returns-in-Ignore
body-returns-in-Ignore t c =
    formed (setting_by c.args.guide.now) c.args.aligned (pair_of c.args.pair.now) c.body-made-in-Ignore.result c.args.symbol.now _ _ c.in-Ignore.is c.body-made-in-Ignore.ensures (ap₂ (body_of (setting_by c.args.guide.now) c.args.aligned) c.cleared_by-pair.ensures c.as_symbol-in-Ignore.ensures)

pub body-returns-in-Align : goal.body-returns-in-Align
body-returns-in-Align t c =
    formed (setting_by c.args.guide.now) c.args.aligned (pair_of c.args.pair.now) c.body.result c.args.symbol.now _ _ c.in-Align.is c.body.ensures (ap (body_of (setting_by c.args.guide.now) true (pair_of c.args.pair.now)) c.as_symbol-in-Align.ensures)

pub body-returns-in_ok-body_inner-in-Filtered : goal.body-returns-in_ok-body_inner-in-Filtered
body-returns-in_ok-body_inner-in-Filtered t c =
    formed (setting_by c.args.guide.now) c.args.aligned (pair_of c.args.pair.now) c.filtered.result c.args.symbol.now _ _ c.in-Filtered.is c.filtered.ensures (ap (λ z. tree.Filtered z c.in-Filtered.filters) c.in_ok-body_inner-in-Filtered.ensures)

pub body-returns-in_ok-sequence-in-Seq : goal.body-returns-in_ok-sequence-in-Seq
body-returns-in_ok-sequence-in-Seq t c =
    ap tree.Seq (ap gathered c.in_ok-sequence-in-Seq.ensures ∙ (c.all_are_gathered-in-Seq.ensures _ _).symbols _) ∙ sym (ap (λ z. body_of (setting_by c.args.guide.now) c.args.aligned (pair_of c.args.pair.now) (symbol_of z)) c.in-Seq.is)

pub body-returns-in_ok-made-in-Entry : goal.body-returns-in_ok-made-in-Entry
body-returns-in_ok-made-in-Entry t c =
    formed (setting_by c.args.guide.now) c.args.aligned (pair_of c.args.pair.now) c.entered_again.result c.args.symbol.now _ _ c.in-Entry.is c.entered_again.ensures (ap (tree.Entry (c.in-Entry.bindings ++ pair_bindings (setting_by c.args.guide.now) (pair_of c.args.pair.now))) c.in_ok-made-in-Entry.ensures)

pub inside-returns : goal.inside-returns
inside-returns t c =
    told_inside (setting_by c.args.guide.now) (pair_of c.inner_of-within.result) (pair_of c.args.pair.now) c.body-made.result _ c.args.part.now c.inner_of-within.ensures c.as_symbol.ensures c.body-made.ensures

pub sequence-in_sequence-requires : goal.sequence-in_sequence-requires
sequence-in_sequence-requires t c = (
  omega (
    arith,
    ap deep-Symbol c.symbol-item.is,
    at_most deep-Symbol c.as_slice-symbol-items.result.now c.loop-symbol.symbol-index c.symbol-item.result c.loop-symbol-test.true,
    most_symbols c.as_slice-symbol-items.result.now,
    ap list_nodes c.as_slice-symbol-items.ensures,
  ),
  tt,
)

pub choices-alternative-requires : goal.choices-alternative-requires
choices-alternative-requires t c = (
  omega (
    arith,
    ap deep-Alt c.cell-item.is,
    at_most deep-Alt c.as_slice-cell-items.result.now c.loop-cell.cell-index c.cell-item.result c.loop-cell-test.true,
    most_alternatives c.as_slice-cell-items.result.now,
    ap alternatives_nodes c.as_slice-cell-items.ensures,
  ),
  tt,
)

pub sequence-loop-symbol-preserved : goal.sequence-loop-symbol-preserved
sequence-loop-symbol-preserved t c =
    one_more (setting_by c.args.guide.now) (pair_of c.args.pair.now) c.loop-symbol.done c.push_symbol.new.all _ c.as_slice-symbol-items.result.now c.symbol-item.result
    c.loop-symbol.symbol-index _ c.loop-symbol.invariant c.in_ok-push_symbol.ensures c.in_ok-in_sequence.ensures c.symbol-item.is c.loop-symbol-test.true

pub choices_inside-returns : goal.choices_inside-returns
choices_inside-returns t c =
    choices_told (setting_by c.args.guide.now) (pair_of c.inner_of-within.result) (pair_of c.args.pair.now) c.choices-made.result c.args.alternatives.now c.inner_of-within.ensures c.choices-made.ensures

pub with_separator-returns-in-Ok : goal.with_separator-returns-in-Ok
with_separator-returns-in-Ok t c =
    subst (λ z. IfOk c.both.result (λ r. r ≡ (c.args.first, z))) (ap₂ (item_by (setting_by c.args.guide.now) false (pair_of c.args.pair.now)) c.as_symbol.ensures c.in-Ok.ensures) c.both.ensures
