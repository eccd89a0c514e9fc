use Rattle.std.proofs.Common.{◌++◌, ◌∷◌, [], Some, ap, sym, ◌∙◌, refl, subst, arith, take, map}
use Rattle.std.proofs.lemmas.List.{take_more}
use Rattle.ig_expr.specs.View.{expression_of}
use Rattle.ig_grammar.specs.View.{symbol_of}
use Rattle.ig_grammar.specs.Symbol as tree
use Rattle.ig_grammar.specs.Symbol.{gathered}
use Rattle.ig_grammar.specs.Alternative.{gathered_alternatives}
use Rattle.ig_grammar.specs.Visible.{inside_sequence, inside_choices, all_bind, replaced}
use Rattle.ig_scope.specs.AlternativesTold.{from}
use Rattle.ig_grammar.specs.CodingMembers.{choice_below, node_below}
use Rattle.ig_scope.proofs.Sequences.{inside_append, inside_push, choices_append, choices_push}
use Rattle.ig_scope.proofs.Loops.{Splits, split_at, split_map, more_mapped}
use Rattle.ig_scope.proofs.Rooms.{leaves_form, leaves_itself_none, leaves_form_none, leaves_pair, leaves_more, leaves_past}
use Rattle.ig_scope.proofs.binders.+binders.Goals as goal

pub leave-returns-in_err-room : goal.leave-returns-in_err-room
leave-returns-in_err-room t c =
    λ v. leaves_itself_none v c.args.room (symbol_of c.args.symbol.now) c.from_residual.result c.from_residual.ensures (c.in_err-room.ensures v)

pub leave-returns-in-Label : goal.leave-returns-in-Label
leave-returns-in-Label t c =
    λ v. leaves_form v c.args.room c.in_ok-room.room (symbol_of c.args.symbol.now) (tree.Label c.in-Label.field-0 c.in-Label.inner) (from v (symbol_of c.as_symbol.result.now)) c.leave.result (ap symbol_of c.in-Label.is) (ap (from v) (sym c.as_symbol.ensures)) (c.in_ok-room.ensures v) (c.leave.ensures v)

pub leave-returns-in-Opt : goal.leave-returns-in-Opt
leave-returns-in-Opt t c =
    λ v. leaves_form v c.args.room c.in_ok-room.room (symbol_of c.args.symbol.now) (tree.Opt c.in-Opt.inner) (from v (symbol_of c.as_symbol-in-Opt.result.now)) c.leave-in-Opt.result (ap symbol_of c.in-Opt.is) (ap (from v) (sym c.as_symbol-in-Opt.ensures)) (c.in_ok-room.ensures v) (c.leave-in-Opt.ensures v)

pub leave-returns-in-Star : goal.leave-returns-in-Star
leave-returns-in-Star t c =
    λ v. leaves_form v c.args.room c.in_ok-room.room (symbol_of c.args.symbol.now) (tree.Star c.in-Star.inner) (from v (symbol_of c.as_symbol-in-Star.result.now)) c.leave-in-Star.result (ap symbol_of c.in-Star.is) (ap (from v) (sym c.as_symbol-in-Star.ensures)) (c.in_ok-room.ensures v) (c.leave-in-Star.ensures v)

pub leave-returns-in-Plus : goal.leave-returns-in-Plus
leave-returns-in-Plus t c =
    λ v. leaves_form v c.args.room c.in_ok-room.room (symbol_of c.args.symbol.now) (tree.Plus c.in-Plus.inner) (from v (symbol_of c.as_symbol-in-Plus.result.now)) c.leave-in-Plus.result (ap symbol_of c.in-Plus.is) (ap (from v) (sym c.as_symbol-in-Plus.ensures)) (c.in_ok-room.ensures v) (c.leave-in-Plus.ensures v)

pub leave-returns-in-Offside : goal.leave-returns-in-Offside
leave-returns-in-Offside t c =
    λ v. leaves_form v c.args.room c.in_ok-room.room (symbol_of c.args.symbol.now) (tree.Offside c.in-Offside.inner) (from v (symbol_of c.as_symbol-in-Offside.result.now)) c.leave-in-Offside.result (ap symbol_of c.in-Offside.is) (ap (from v) (sym c.as_symbol-in-Offside.ensures)) (c.in_ok-room.ensures v) (c.leave-in-Offside.ensures v)

pub leave-returns-in-Ignore : goal.leave-returns-in-Ignore
leave-returns-in-Ignore t c =
    λ v. leaves_form v c.args.room c.in_ok-room.room (symbol_of c.args.symbol.now) (tree.Ignore c.in-Ignore.inner) (from v (symbol_of c.as_symbol-in-Ignore.result.now)) c.leave-in-Ignore.result (ap symbol_of c.in-Ignore.is) (ap (from v) (sym c.as_symbol-in-Ignore.ensures)) (c.in_ok-room.ensures v) (c.leave-in-Ignore.ensures v)

pub leave-returns-in-Align : goal.leave-returns-in-Align
leave-returns-in-Align t c =
    λ v. leaves_form v c.args.room c.in_ok-room.room (symbol_of c.args.symbol.now) (tree.Align c.in-Align.inner) (from v (symbol_of c.as_symbol-in-Align.result.now)) c.leave-in-Align.result (ap symbol_of c.in-Align.is) (ap (from v) (sym c.as_symbol-in-Align.ensures)) (c.in_ok-room.ensures v) (c.leave-in-Align.ensures v)

pub leave-returns-in-Filtered : goal.leave-returns-in-Filtered
leave-returns-in-Filtered t c =
    λ v. leaves_form v c.args.room c.in_ok-room.room (symbol_of c.args.symbol.now) (tree.Filtered c.in-Filtered.inner c.in-Filtered.field-1) (from v (symbol_of c.as_symbol-in-Filtered.result.now)) c.leave-in-Filtered.result (ap symbol_of c.in-Filtered.is) (ap (from v) (sym c.as_symbol-in-Filtered.ensures)) (c.in_ok-room.ensures v) (c.leave-in-Filtered.ensures v)

pub leave-returns-in-Entry : goal.leave-returns-in-Entry
leave-returns-in-Entry t c =
    λ v. leaves_form v c.args.room c.in_ok-room.room (symbol_of c.args.symbol.now) (tree.Entry c.in-Entry.field-0 c.in-Entry.inner) (from (replaced v v c.in-Entry.field-0) (symbol_of c.as_symbol-in-Entry.result.now)) c.leave-in-Entry.result (ap symbol_of c.in-Entry.is) (ap (from (replaced v v c.in-Entry.field-0)) (sym c.as_symbol-in-Entry.ensures)) (c.in_ok-room.ensures v) (c.leave-in-Entry.ensures (replaced v v c.in-Entry.field-0))

pub leave-returns-in-Literal : goal.leave-returns-in-Literal
leave-returns-in-Literal t c =
    λ v. leaves_form v c.args.room c.in_ok-room.room (symbol_of c.args.symbol.now) (tree.Literal c.in-Literal.field-0) [] (Some c.in_ok-room.room) (ap symbol_of c.in-Literal.is) refl (c.in_ok-room.ensures v) (omega arith)

pub leave-returns-in-Class : goal.leave-returns-in-Class
leave-returns-in-Class t c =
    λ v. leaves_form v c.args.room c.in_ok-room.room (symbol_of c.args.symbol.now) (tree.OneOf c.in-Class.field-0) [] (Some c.in_ok-room.room) (ap symbol_of c.in-Class.is) refl (c.in_ok-room.ensures v) (omega arith)

pub leave-returns-in-Call : goal.leave-returns-in-Call
leave-returns-in-Call t c =
    λ v. leaves_form v c.args.room c.in_ok-room.room (symbol_of c.args.symbol.now) (tree.Call c.in-Call.field-0 c.in-Call.field-1) [] (Some c.in_ok-room.room) (ap symbol_of c.in-Call.is) refl (c.in_ok-room.ensures v) (omega arith)

pub leave-returns-in-Guard : goal.leave-returns-in-Guard
leave-returns-in-Guard t c =
    λ v. leaves_form v c.args.room c.in_ok-room.room (symbol_of c.args.symbol.now) (tree.Guard (expression_of c.in-Guard.field-0)) [] (Some c.in_ok-room.room) (ap symbol_of c.in-Guard.is) refl (c.in_ok-room.ensures v) (omega arith)

pub leave-returns-in-Let : goal.leave-returns-in-Let
leave-returns-in-Let t c =
    λ v. leaves_form v c.args.room c.in_ok-room.room (symbol_of c.args.symbol.now) (tree.Let c.in-Let.field-0 (expression_of c.in-Let.field-1)) [] (Some c.in_ok-room.room) (ap symbol_of c.in-Let.is) refl (c.in_ok-room.ensures v) (omega arith)

pub leave-returns-in_ok-room-in-SepStar : goal.leave-returns-in_ok-room-in-SepStar
leave-returns-in_ok-room-in-SepStar t c =
    λ v. leaves_form v c.args.room c.in_ok-room.room (symbol_of c.args.symbol.now) (tree.SepStar c.in-SepStar.inner c.in-SepStar.separator) ((from v (symbol_of c.as_symbol-in-SepStar.result.now)) ++ (from v (symbol_of c.as_symbol-in-SepStar-2.result.now))) c.leave-in-SepStar-2.result (ap symbol_of c.in-SepStar.is)
    (λ i. from v (sym c.as_symbol-in-SepStar.ensures i) ++ from v (sym c.as_symbol-in-SepStar-2.ensures i)) (c.in_ok-room.ensures v)
    (leaves_pair c.in_ok-room.room c.in_ok-room-in-SepStar.room (from v (symbol_of c.as_symbol-in-SepStar.result.now)) (from v (symbol_of c.as_symbol-in-SepStar-2.result.now)) c.leave-in-SepStar-2.result (c.in_ok-room-in-SepStar.ensures v) (c.leave-in-SepStar-2.ensures v))

pub leave-returns-in_err-room-in-SepStar : goal.leave-returns-in_err-room-in-SepStar
leave-returns-in_err-room-in-SepStar t c =
    λ v. leaves_form_none v c.args.room c.in_ok-room.room (symbol_of c.args.symbol.now) (tree.SepStar c.in-SepStar.inner c.in-SepStar.separator) (from v (symbol_of c.as_symbol-in-SepStar.result.now)) (from v c.in-SepStar.separator) c.from_residual-in_err-room-in-SepStar.result c.from_residual-in_err-room-in-SepStar.ensures (ap symbol_of c.in-SepStar.is)
    (ap (λ z. from v z ++ from v c.in-SepStar.separator) (sym c.as_symbol-in-SepStar.ensures)) (c.in_ok-room.ensures v) (c.in_err-room-in-SepStar.ensures v)

pub leave-returns-in_ok-room-in-SepPlus : goal.leave-returns-in_ok-room-in-SepPlus
leave-returns-in_ok-room-in-SepPlus t c =
    λ v. leaves_form v c.args.room c.in_ok-room.room (symbol_of c.args.symbol.now) (tree.SepPlus c.in-SepPlus.inner c.in-SepPlus.separator) ((from v (symbol_of c.as_symbol-in-SepPlus.result.now)) ++ (from v (symbol_of c.as_symbol-in-SepPlus-2.result.now))) c.leave-in-SepPlus-2.result (ap symbol_of c.in-SepPlus.is)
    (λ i. from v (sym c.as_symbol-in-SepPlus.ensures i) ++ from v (sym c.as_symbol-in-SepPlus-2.ensures i)) (c.in_ok-room.ensures v)
    (leaves_pair c.in_ok-room.room c.in_ok-room-in-SepPlus.room (from v (symbol_of c.as_symbol-in-SepPlus.result.now)) (from v (symbol_of c.as_symbol-in-SepPlus-2.result.now)) c.leave-in-SepPlus-2.result (c.in_ok-room-in-SepPlus.ensures v) (c.leave-in-SepPlus-2.ensures v))

pub leave-returns-in_err-room-in-SepPlus : goal.leave-returns-in_err-room-in-SepPlus
leave-returns-in_err-room-in-SepPlus t c =
    λ v. leaves_form_none v c.args.room c.in_ok-room.room (symbol_of c.args.symbol.now) (tree.SepPlus c.in-SepPlus.inner c.in-SepPlus.separator) (from v (symbol_of c.as_symbol-in-SepPlus.result.now)) (from v c.in-SepPlus.separator) c.from_residual-in_err-room-in-SepPlus.result c.from_residual-in_err-room-in-SepPlus.ensures (ap symbol_of c.in-SepPlus.is)
    (ap (λ z. from v z ++ from v c.in-SepPlus.separator) (sym c.as_symbol-in-SepPlus.ensures)) (c.in_ok-room.ensures v) (c.in_err-room-in-SepPlus.ensures v)

pub leave-returns-in-Group : goal.leave-returns-in-Group
leave-returns-in-Group t c =
    λ v. leaves_form v c.args.room c.in_ok-room.room (symbol_of c.args.symbol.now) (tree.Group (gathered_alternatives c.in-Group.choices)) (inside_choices v (gathered_alternatives c.in-Group.choices)) c.leave_choices.result (ap symbol_of c.in-Group.is) (refl) (c.in_ok-room.ensures v) (c.leave_choices.ensures v)

pub leave-returns-in-Seq : goal.leave-returns-in-Seq
leave-returns-in-Seq t c =
    λ v. leaves_form v c.args.room c.in_ok-room.room (symbol_of c.args.symbol.now) (tree.Seq (gathered c.in-Seq.symbols)) (inside_sequence v (gathered c.in-Seq.symbols)) c.leave_sequence.result (ap symbol_of c.in-Seq.is) (refl) (c.in_ok-room.ensures v) (c.leave_sequence.ensures v)

pub leave_choices-leave_sequence-requires : goal.leave_choices-leave_sequence-requires
leave_choices-leave_sequence-requires t c =
    let n = choice_below c.as_slice-choice-items.result.now c.args.choices.now c.loop-choice.choice-index
    c.choice-item.result c.as_slice-choice-items.ensures c.loop-choice-test.true c.choice-item.is in
    omega arith

pub leave_choices-returns-in_err-left : goal.leave_choices-returns-in_err-left
leave_choices-returns-in_err-left t c =
    let s = (subst (λ z. Splits z (take c.loop-choice.choice-index c.as_slice-choice-items.result.now) c.choice-item.result) c.as_slice-choice-items.ensures (split_at c.as_slice-choice-items.result.now c.loop-choice.choice-index c.choice-item.result c.loop-choice-test.true c.choice-item.is)) in
    λ v. leaves_past c.args.room c.loop-choice.left (inside_choices v (gathered_alternatives (take c.loop-choice.choice-index c.as_slice-choice-items.result.now))) (inside_sequence v (gathered c.choice-item.result.symbols)) (inside_choices v (gathered_alternatives s.rest)) (inside_choices v (gathered_alternatives c.args.choices.now)) c.from_residual.result c.from_residual.ensures
    (ap (λ z. inside_choices v (gathered_alternatives z)) s.whole ∙ choices_append v ((take c.loop-choice.choice-index c.as_slice-choice-items.result.now) ++ c.choice-item.result ∷ []) s.rest ∙ ap (λ z. z ++ inside_choices v (gathered_alternatives s.rest)) (choices_push v (take c.loop-choice.choice-index c.as_slice-choice-items.result.now) c.choice-item.result))
    (c.loop-choice.invariant v) (c.in_err-left.ensures v)

pub leave_choices-loop-choice-preserved : goal.leave_choices-loop-choice-preserved
leave_choices-loop-choice-preserved t c =
    λ v. leaves_more c.args.room c.loop-choice.left (inside_choices v (gathered_alternatives (take c.loop-choice.choice-index c.as_slice-choice-items.result.now))) (inside_sequence v (gathered c.choice-item.result.symbols)) _ (Some c.in_ok-left.left)
    (ap (λ z. inside_choices v (gathered_alternatives z)) (take_more c.as_slice-choice-items.result.now c.loop-choice.choice-index c.choice-item.result c.loop-choice-test.true ∙ ap (λ z. (take c.loop-choice.choice-index c.as_slice-choice-items.result.now) ++ z ∷ []) (sym c.choice-item.is)) ∙ choices_push v (take c.loop-choice.choice-index c.as_slice-choice-items.result.now) c.choice-item.result)
    (c.loop-choice.invariant v) (c.in_ok-left.ensures v)

pub leave_sequence-leave-requires : goal.leave_sequence-leave-requires
leave_sequence-leave-requires t c =
    let n = node_below c.as_slice-symbol-items.result.now c.args.symbols.now c.loop-symbol.symbol-index c.symbol-item.result c.as_slice-symbol-items.ensures c.loop-symbol-test.true c.symbol-item.is in
    omega arith

pub leave_sequence-returns-in_err-left : goal.leave_sequence-returns-in_err-left
leave_sequence-returns-in_err-left t c =
    let s = (split_map symbol_of c.as_slice-symbol-items.result.now c.args.symbols.now c.loop-symbol.symbol-index c.symbol-item.result c.as_slice-symbol-items.ensures c.loop-symbol-test.true c.symbol-item.is) in
    λ v. leaves_past c.args.room c.loop-symbol.left (inside_sequence v (gathered (map symbol_of (take c.loop-symbol.symbol-index c.as_slice-symbol-items.result.now)))) (from (v ++ all_bind v (gathered (map symbol_of (take c.loop-symbol.symbol-index c.as_slice-symbol-items.result.now)))) (symbol_of c.symbol-item.result)) _ (inside_sequence v (gathered c.args.symbols.now)) c.from_residual.result c.from_residual.ensures
    (ap (λ z. inside_sequence v (gathered z)) s.whole ∙ inside_append v ((map symbol_of (take c.loop-symbol.symbol-index c.as_slice-symbol-items.result.now)) ++ symbol_of c.symbol-item.result ∷ []) s.rest ∙ ap (λ z. z ++ inside_sequence (v ++ all_bind v (gathered ((map symbol_of (take c.loop-symbol.symbol-index c.as_slice-symbol-items.result.now)) ++ symbol_of c.symbol-item.result ∷ []))) (gathered s.rest)) (inside_push v (map symbol_of (take c.loop-symbol.symbol-index c.as_slice-symbol-items.result.now)) (symbol_of c.symbol-item.result)))
    (c.loop-symbol.invariant v) (c.in_err-left.ensures (v ++ all_bind v (gathered (map symbol_of (take c.loop-symbol.symbol-index c.as_slice-symbol-items.result.now)))))

pub leave_sequence-loop-symbol-preserved : goal.leave_sequence-loop-symbol-preserved
leave_sequence-loop-symbol-preserved t c =
    λ v. leaves_more c.args.room c.loop-symbol.left (inside_sequence v (gathered (map symbol_of (take c.loop-symbol.symbol-index c.as_slice-symbol-items.result.now)))) (from (v ++ all_bind v (gathered (map symbol_of (take c.loop-symbol.symbol-index c.as_slice-symbol-items.result.now)))) (symbol_of c.symbol-item.result)) _ (Some c.in_ok-left.left)
    (ap (λ z. inside_sequence v (gathered z)) (more_mapped symbol_of c.as_slice-symbol-items.result.now c.loop-symbol.symbol-index c.symbol-item.result c.loop-symbol-test.true c.symbol-item.is) ∙ inside_push v (map symbol_of (take c.loop-symbol.symbol-index c.as_slice-symbol-items.result.now)) (symbol_of c.symbol-item.result))
    (c.loop-symbol.invariant v) (c.in_ok-left.ensures (v ++ all_bind v (gathered (map symbol_of (take c.loop-symbol.symbol-index c.as_slice-symbol-items.result.now)))))
