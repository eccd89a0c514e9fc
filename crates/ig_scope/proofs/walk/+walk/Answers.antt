use Rattle.std.proofs.Common.{take, map, subst, arith, Ok, ◌+◌, ◌++◌, ◌∷◌, [], ap, sym, ◌∙◌, refl}
use Rattle.std.proofs.lemmas.List.{append-nil, take_more}
use Rattle.ig_grammar.specs.View.{symbol_of}
use Rattle.ig_grammar.specs.Symbol as tree
use Rattle.ig_grammar.specs.Symbol.{gathered}
use Rattle.ig_grammar.specs.Alternative.{gathered_alternatives}
use Rattle.ig_grammar.specs.Visible.{at, inside, inside_sequence, inside_choices, binds, all_bind}
use Rattle.ig_scope.specs.AlternativesTold.{from, Walked}
use Rattle.ig_grammar.specs.CodingMembers.{choice_below, node_below}
use Rattle.ig_scope.proofs.Loops.{Splits, split_at, split_map, more_mapped, sequence_step, sequence_stop, sequence_fits, choices_step, choices_stop, choices_fits}
use Rattle.ig_scope.proofs.Walks.{walked_form, walked_form_stopped, walked_fault, walked_pair, walked_aside, walked_apart}
use Rattle.ig_scope.proofs.walk.+walk.Goals as goal

pub walk_symbol-returns-in-Opt : goal.walk_symbol-returns-in-Opt
walk_symbol-returns-in-Opt t c =
    walked_form c.args.around.now c.args.before c.args.variables.now c.walk_apart.new.variables _ (tree.Opt c.in-Opt.inner) _ _ c.walk_apart.result (ap symbol_of c.in-Opt.is) (refl) (refl) c.in_default.ensures
    c.walk_apart.ensures

pub walk_symbol-returns-in-Star : goal.walk_symbol-returns-in-Star
walk_symbol-returns-in-Star t c =
    walked_form c.args.around.now c.args.before c.args.variables.now c.walk_apart-in-Star.new.variables _ (tree.Star c.in-Star.inner) _ _ c.walk_apart-in-Star.result (ap symbol_of c.in-Star.is) (refl) (refl) c.in_default.ensures
    c.walk_apart-in-Star.ensures

pub walk_symbol-returns-in-Plus : goal.walk_symbol-returns-in-Plus
walk_symbol-returns-in-Plus t c =
    walked_form c.args.around.now c.args.before c.args.variables.now c.walk_apart-in-Plus.new.variables _ (tree.Plus c.in-Plus.inner) _ _ c.walk_apart-in-Plus.result (ap symbol_of c.in-Plus.is) (refl) (refl) c.in_default.ensures
    c.walk_apart-in-Plus.ensures

pub walk_symbol-returns-in_ok-after-in-SepStar : goal.walk_symbol-returns-in_ok-after-in-SepStar
walk_symbol-returns-in_ok-after-in-SepStar t c =
    walked_form c.args.around.now c.args.before c.args.variables.now c.walk_apart-in-SepStar-2.new.variables _ (tree.SepStar c.in-SepStar.inner c.in-SepStar.separator) _ _ c.walk_apart-in-SepStar-2.result (ap symbol_of c.in-SepStar.is) (refl) (refl) c.in_default.ensures
    (walked_pair c.args.around.now (c.args.before + 1) c.in_ok-after-in-SepStar.after c.args.variables.now c.walk_apart-in-SepStar.new.variables c.walk_apart-in-SepStar-2.new.variables c.in-SepStar.inner c.in-SepStar.separator c.walk_apart-in-SepStar-2.result c.in_ok-after-in-SepStar.ensures c.walk_apart-in-SepStar-2.ensures)

pub walk_symbol-returns-in_err-after-in-SepStar : goal.walk_symbol-returns-in_err-after-in-SepStar
walk_symbol-returns-in_err-after-in-SepStar t c =
    walked_form_stopped c.args.around.now c.args.before c.args.variables.now c.walk_apart-in-SepStar.new.variables c.walk_apart-in-SepStar.new.variables _ (tree.SepStar c.in-SepStar.inner c.in-SepStar.separator) (from c.args.variables.now c.in-SepStar.inner) (from c.args.variables.now c.in-SepStar.separator) []
    c.in_err-after-in-SepStar.field-0.0 c.from_residual-in_err-after-in-SepStar.result c.from_residual-in_err-after-in-SepStar.ensures.1 (ap symbol_of c.in-SepStar.is) refl c.in_default.ensures c.in_err-after-in-SepStar.ensures

pub walk_symbol-returns-in_ok-after-in-SepPlus : goal.walk_symbol-returns-in_ok-after-in-SepPlus
walk_symbol-returns-in_ok-after-in-SepPlus t c =
    walked_form c.args.around.now c.args.before c.args.variables.now c.walk_apart-in-SepPlus-2.new.variables _ (tree.SepPlus c.in-SepPlus.inner c.in-SepPlus.separator) _ _ c.walk_apart-in-SepPlus-2.result (ap symbol_of c.in-SepPlus.is) (refl) (refl) c.in_default.ensures
    (walked_pair c.args.around.now (c.args.before + 1) c.in_ok-after-in-SepPlus.after c.args.variables.now c.walk_apart-in-SepPlus.new.variables c.walk_apart-in-SepPlus-2.new.variables c.in-SepPlus.inner c.in-SepPlus.separator c.walk_apart-in-SepPlus-2.result c.in_ok-after-in-SepPlus.ensures c.walk_apart-in-SepPlus-2.ensures)

pub walk_symbol-returns-in_err-after-in-SepPlus : goal.walk_symbol-returns-in_err-after-in-SepPlus
walk_symbol-returns-in_err-after-in-SepPlus t c =
    walked_form_stopped c.args.around.now c.args.before c.args.variables.now c.walk_apart-in-SepPlus.new.variables c.walk_apart-in-SepPlus.new.variables _ (tree.SepPlus c.in-SepPlus.inner c.in-SepPlus.separator) (from c.args.variables.now c.in-SepPlus.inner) (from c.args.variables.now c.in-SepPlus.separator) []
    c.in_err-after-in-SepPlus.field-0.0 c.from_residual-in_err-after-in-SepPlus.result c.from_residual-in_err-after-in-SepPlus.ensures.1 (ap symbol_of c.in-SepPlus.is) refl c.in_default.ensures c.in_err-after-in-SepPlus.ensures

pub walk_symbol-returns-in_err-after-in-Label : goal.walk_symbol-returns-in_err-after-in-Label
walk_symbol-returns-in_err-after-in-Label t c =
    walked_form_stopped c.args.around.now c.args.before c.args.variables.now c.walk_symbol.new.variables c.walk_symbol.new.variables _ (tree.Label c.in-Label.name c.in-Label.inner) (from c.args.variables.now (symbol_of c.as_symbol.result.now)) [] (binds c.args.variables.now (symbol_of c.as_symbol.result.now))
    c.in_err-after-in-Label.field-0.0 c.from_residual.result c.from_residual.ensures.1 (ap symbol_of c.in-Label.is) (ap (from c.args.variables.now) (sym c.as_symbol.ensures) ∙ sym (append-nil _)) c.in_default.ensures c.in_err-after-in-Label.ensures

pub walk_symbol-returns-in-Offside : goal.walk_symbol-returns-in-Offside
walk_symbol-returns-in-Offside t c =
    walked_form c.args.around.now c.args.before c.args.variables.now c.walk_symbol-in-Offside.new.variables _ (tree.Offside c.in-Offside.inner) _ _ c.walk_symbol-in-Offside.result (ap symbol_of c.in-Offside.is) (ap (from c.args.variables.now) (sym c.as_symbol-in-Offside.ensures)) (ap (binds c.args.variables.now) (sym c.as_symbol-in-Offside.ensures)) c.in_default.ensures
    c.walk_symbol-in-Offside.ensures

pub walk_symbol-returns-in-Ignore : goal.walk_symbol-returns-in-Ignore
walk_symbol-returns-in-Ignore t c =
    walked_form c.args.around.now c.args.before c.args.variables.now c.walk_symbol-in-Ignore.new.variables _ (tree.Ignore c.in-Ignore.inner) _ _ c.walk_symbol-in-Ignore.result (ap symbol_of c.in-Ignore.is) (ap (from c.args.variables.now) (sym c.as_symbol-in-Ignore.ensures)) (ap (binds c.args.variables.now) (sym c.as_symbol-in-Ignore.ensures)) c.in_default.ensures
    c.walk_symbol-in-Ignore.ensures

pub walk_symbol-returns-in-Align : goal.walk_symbol-returns-in-Align
walk_symbol-returns-in-Align t c =
    walked_form c.args.around.now c.args.before c.args.variables.now c.walk_symbol-in-Align.new.variables _ (tree.Align c.in-Align.inner) _ _ c.walk_symbol-in-Align.result (ap symbol_of c.in-Align.is) (ap (from c.args.variables.now) (sym c.as_symbol-in-Align.ensures)) (ap (binds c.args.variables.now) (sym c.as_symbol-in-Align.ensures)) c.in_default.ensures
    c.walk_symbol-in-Align.ensures

pub walk_symbol-returns-in-Filtered : goal.walk_symbol-returns-in-Filtered
walk_symbol-returns-in-Filtered t c =
    walked_form c.args.around.now c.args.before c.args.variables.now c.walk_symbol-in-Filtered.new.variables _ (tree.Filtered c.in-Filtered.inner c.in-Filtered.field-1) _ _ c.walk_symbol-in-Filtered.result (ap symbol_of c.in-Filtered.is) (ap (from c.args.variables.now) (sym c.as_symbol-in-Filtered.ensures)) (ap (binds c.args.variables.now) (sym c.as_symbol-in-Filtered.ensures)) c.in_default.ensures
    c.walk_symbol-in-Filtered.ensures

pub walk_symbol-returns-in-Group : goal.walk_symbol-returns-in-Group
walk_symbol-returns-in-Group t c =
    walked_form c.args.around.now c.args.before c.args.variables.now c.walk_choices.new.variables _ (tree.Group (gathered_alternatives c.in-Group.choices)) _ _ c.walk_choices.result (ap symbol_of c.in-Group.is) (refl) (refl) c.in_default.ensures
    c.walk_choices.ensures

pub walk_symbol-returns-in-Seq : goal.walk_symbol-returns-in-Seq
walk_symbol-returns-in-Seq t c =
    walked_form c.args.around.now c.args.before c.args.variables.now c.walk_sequence.new.variables _ (tree.Seq (gathered c.in-Seq.symbols)) _ _ c.walk_sequence.result (ap symbol_of c.in-Seq.is) (refl) (refl) c.in_default.ensures
    c.walk_sequence.ensures

pub walk_symbol-returns-in-Some : goal.walk_symbol-returns-in-Some
walk_symbol-returns-in-Some t c =
    walked_fault c.args.around.now c.args.before (at c.args.variables.now (symbol_of c.args.symbol.now)) (inside c.args.variables.now (symbol_of c.args.symbol.now)) (binds c.args.variables.now (symbol_of c.args.symbol.now)) c.args.variables.now c.args.variables.now c.in-Some.cause c.fault.result c.in-Some.ensures c.fault.ensures

pub walk_choices-walk_sequence-requires : goal.walk_choices-walk_sequence-requires
walk_choices-walk_sequence-requires t c =
    let n = choice_below c.as_slice-choice-items.result.now c.args.choices.now c.loop-choice.choice-index
    c.choice-item.result c.as_slice-choice-items.ensures c.loop-choice-test.true c.choice-item.is in
    (omega arith, choices_fits c.args.around.now c.args.before c.args.variables.now c.args.choices.now (take c.loop-choice.choice-index c.as_slice-choice-items.result.now) c.choice-item.result c.loop-choice.variables c.loop-choice.next (subst (λ z. Splits z (take c.loop-choice.choice-index c.as_slice-choice-items.result.now) c.choice-item.result) c.as_slice-choice-items.ensures (split_at c.as_slice-choice-items.result.now c.loop-choice.choice-index c.choice-item.result c.loop-choice-test.true c.choice-item.is)) c.loop-choice.invariant c.requires)

pub walk_choices-returns-in_err-next : goal.walk_choices-returns-in_err-next
walk_choices-returns-in_err-next t c =
    choices_stop c.args.around.now c.args.before c.args.variables.now c.args.choices.now (take c.loop-choice.choice-index c.as_slice-choice-items.result.now) c.choice-item.result c.loop-choice.variables c.walk_sequence.new.variables (all_bind c.loop-choice.variables (gathered c.choice-item.result.symbols)) c.loop-choice.next c.in_err-next.field-0.0 c.from_residual.result
    c.from_residual.ensures.1 (subst (λ z. Splits z (take c.loop-choice.choice-index c.as_slice-choice-items.result.now) c.choice-item.result) c.as_slice-choice-items.ensures (split_at c.as_slice-choice-items.result.now c.loop-choice.choice-index c.choice-item.result c.loop-choice-test.true c.choice-item.is)) c.loop-choice.invariant c.in_err-next.ensures

pub walk_choices-loop-choice-preserved : goal.walk_choices-loop-choice-preserved
walk_choices-loop-choice-preserved t c =
    subst (λ z. Walked c.args.around.now c.args.before (inside_choices c.args.variables.now (gathered_alternatives z)) [] c.args.variables.now c.truncate.new.self (Ok c.in_ok-next.next))
    (sym (take_more c.as_slice-choice-items.result.now c.loop-choice.choice-index c.choice-item.result c.loop-choice-test.true ∙ ap (λ z. (take c.loop-choice.choice-index c.as_slice-choice-items.result.now) ++ z ∷ []) (sym c.choice-item.is)))
    (walked_apart c.args.around.now c.args.before c.in_ok-next.next (inside_choices c.args.variables.now (gathered_alternatives ((take c.loop-choice.choice-index c.as_slice-choice-items.result.now) ++ c.choice-item.result ∷ []))) (all_bind c.loop-choice.variables (gathered c.choice-item.result.symbols)) c.args.variables.now c.walk_sequence.new.variables c.truncate.new.self
    (choices_step c.args.around.now c.args.before c.args.variables.now (take c.loop-choice.choice-index c.as_slice-choice-items.result.now) c.choice-item.result c.loop-choice.variables c.walk_sequence.new.variables (all_bind c.loop-choice.variables (gathered c.choice-item.result.symbols)) c.loop-choice.next (Ok c.in_ok-next.next) c.loop-choice.invariant c.in_ok-next.ensures)
    (c.truncate.ensures ∙ ap (λ n. take n c.walk_sequence.new.variables) c.len-visible.ensures))

pub walk_sequence-walk_symbol-requires : goal.walk_sequence-walk_symbol-requires
walk_sequence-walk_symbol-requires t c =
    let n = node_below c.as_slice-symbol-items.result.now c.args.symbols.now c.loop-symbol.symbol-index c.symbol-item.result c.as_slice-symbol-items.ensures c.loop-symbol-test.true c.symbol-item.is in
    (omega arith, sequence_fits c.args.around.now c.args.before c.args.variables.now c.args.symbols.now (map symbol_of (take c.loop-symbol.symbol-index c.as_slice-symbol-items.result.now)) (symbol_of c.symbol-item.result) c.loop-symbol.variables c.loop-symbol.next (split_map symbol_of c.as_slice-symbol-items.result.now c.args.symbols.now c.loop-symbol.symbol-index c.symbol-item.result c.as_slice-symbol-items.ensures c.loop-symbol-test.true c.symbol-item.is) c.loop-symbol.invariant c.requires)

pub walk_sequence-returns-in_err-next : goal.walk_sequence-returns-in_err-next
walk_sequence-returns-in_err-next t c =
    sequence_stop c.args.around.now c.args.before c.args.variables.now c.args.symbols.now (map symbol_of (take c.loop-symbol.symbol-index c.as_slice-symbol-items.result.now)) (symbol_of c.symbol-item.result) c.loop-symbol.variables c.walk_symbol.new.variables c.loop-symbol.next c.in_err-next.field-0.0 c.from_residual.result
    c.from_residual.ensures.1 (split_map symbol_of c.as_slice-symbol-items.result.now c.args.symbols.now c.loop-symbol.symbol-index c.symbol-item.result c.as_slice-symbol-items.ensures c.loop-symbol-test.true c.symbol-item.is) c.loop-symbol.invariant c.in_err-next.ensures

pub walk_sequence-loop-symbol-preserved : goal.walk_sequence-loop-symbol-preserved
walk_sequence-loop-symbol-preserved t c =
    subst (λ z. Walked c.args.around.now c.args.before (inside_sequence c.args.variables.now (gathered z)) (all_bind c.args.variables.now (gathered z)) c.args.variables.now c.walk_symbol.new.variables (Ok c.in_ok-next.next))
    (sym (more_mapped symbol_of c.as_slice-symbol-items.result.now c.loop-symbol.symbol-index c.symbol-item.result c.loop-symbol-test.true c.symbol-item.is))
    (sequence_step c.args.around.now c.args.before c.args.variables.now (map symbol_of (take c.loop-symbol.symbol-index c.as_slice-symbol-items.result.now)) (symbol_of c.symbol-item.result) c.loop-symbol.variables c.walk_symbol.new.variables c.loop-symbol.next (Ok c.in_ok-next.next) c.loop-symbol.invariant c.in_ok-next.ensures)

pub walk_symbol-returns-in_ok-replaced-in-Entry : goal.walk_symbol-returns-in_ok-replaced-in-Entry
walk_symbol-returns-in_ok-replaced-in-Entry t c =
    walked_form c.args.around.now c.args.before c.args.variables.now c.args.variables.now _ (tree.Entry c.in-Entry.bindings c.in-Entry.inner) (from c.in_ok-replaced-in-Entry.replaced (symbol_of c.as_symbol-in-Entry.result.now)) [] c.walk_symbol-in-Entry.result (ap symbol_of c.in-Entry.is)
    (λ i. from (sym c.in_ok-replaced-in-Entry.ensures i) (sym c.as_symbol-in-Entry.ensures i)) refl c.in_default.ensures
    (walked_aside c.args.around.now (c.args.before + 1) (from c.in_ok-replaced-in-Entry.replaced (symbol_of c.as_symbol-in-Entry.result.now)) (binds c.in_ok-replaced-in-Entry.replaced (symbol_of c.as_symbol-in-Entry.result.now)) c.args.variables.now c.in_ok-replaced-in-Entry.replaced c.walk_symbol-in-Entry.new.variables c.walk_symbol-in-Entry.result c.walk_symbol-in-Entry.ensures)

pub walk_apart-returns : goal.walk_apart-returns
walk_apart-returns t c =
    subst (λ z. Walked c.args.around.now c.args.before (from c.args.variables.now z) [] c.args.variables.now c.truncate.new.self (Ok c.in_ok-behind.behind))
    c.as_symbol.ensures
    (walked_apart c.args.around.now c.args.before c.in_ok-behind.behind (from c.args.variables.now (symbol_of c.as_symbol.result.now))
    (binds c.args.variables.now (symbol_of c.as_symbol.result.now)) c.args.variables.now c.walk_symbol.new.variables c.truncate.new.self
    c.in_ok-behind.ensures (c.truncate.ensures ∙ ap (λ n. take n c.walk_symbol.new.variables) c.len-visible.ensures))
