use Rattle.std.proofs.Common.{◌∷◌, [], refl, map, arith, sym, subst}
use Rattle.std.specs.Prelude.{string_bytes}
use Rattle.std.specs.Str.{chars}
use Rattle.ig_notation_syntax.specs.Token as sign
use Rattle.ig_notation_syntax.specs.Token.{Name, Head, Comma, Open, Close}
use Rattle.ig_grammar.specs.Symbol.{gathered}
use Rattle.ig_grammar.specs.Alternative.{gathered_alternatives}
use Rattle.ig_grammar.specs.CodingFalls.{symbol_falls, alternative_falls}
use Rattle.ig_grammar.specs.View.{symbol_of}
use Rattle.ig_show.specs.Pieces.{token, blank}
use Rattle.ig_show.specs.CanonicalText.{symbol_pieces, alternative_pieces, further_symbols, alternatives_pieces, further_alternatives, separated, filter_pieces, bindings_pieces}
use Rattle.ig_show.proofs.Falling.{other_symbol, other_alternative}
use Rattle.ig_show.specs.Steps.{if_ok, adds, says}
use Rattle.ig_show.proofs.Steps.{says_behind, says_before, adds_behind, adds_before, shown_as, Ahead, first_written, less_ahead, none_ahead}
use Rattle.ig_show.proofs.symbols.+symbols.Goals as goal

pub push_symbol-returns-in_ok-push_alternatives-in-Group : goal.push_symbol-returns-in_ok-push_alternatives-in-Group
unfolding chars
push_symbol-returns-in_ok-push_alternatives-in-Group t c = rw c.in-Group.is (if_ok c.push_text-in-Group.result c.push_text-in-Group.ensures (λ h. adds (says (λ ps. token Open ∷ ps) c.in_ok-push_text-in-Group.ensures (λ _. refl)) (adds c.in_ok-push_alternatives-in-Group.ensures (says (λ ps. token Close ∷ ps) h (λ _. refl)))))

pub push_symbol-returns-in_ok-push_inner-in-Filtered : goal.push_symbol-returns-in_ok-push_inner-in-Filtered
unfolding chars
push_symbol-returns-in_ok-push_inner-in-Filtered t c = rw c.in-Filtered.is (if_ok c.push_filters.result c.push_filters.ensures (λ h. adds c.in_ok-push_inner-in-Filtered.ensures (shown_as (separated (blank ∷ []) filter_pieces) c.as_slice-in-Filtered.ensures h)))

pub push_symbol-returns-in_ok-push_bindings-in-Entry : goal.push_symbol-returns-in_ok-push_bindings-in-Entry
unfolding chars
push_symbol-returns-in_ok-push_bindings-in-Entry t c = rw c.in-Entry.is (if_ok c.push_inner-in-Entry.result c.push_inner-in-Entry.ensures (λ h. adds (shown_as bindings_pieces c.as_slice-in-Entry.ensures c.in_ok-push_bindings-in-Entry.ensures) h))

pub push_alternative-loop-other-init : goal.push_alternative-loop-other-init
push_alternative-loop-other-init t c =
    subst (λ z. Ahead (string_bytes c.args.out.now) (string_bytes c.push_symbol.new.out) (alternative_pieces (gathered z)) (further_symbols (gathered (map symbol_of c.in-Some.others.now)))) c.as_slice.ensures
    (subst (λ z. Ahead (string_bytes c.args.out.now) (string_bytes c.push_symbol.new.out) (alternative_pieces (gathered (map symbol_of z))) (further_symbols (gathered (map symbol_of c.in-Some.others.now)))) (sym c.in-Some.ensures.cases.0)
    (first_written (further_symbols (gathered (map symbol_of c.in-Some.others.now))) c.in_ok-push_symbol.ensures))

pub push_alternative-loop-other-preserved : goal.push_alternative-loop-other-preserved
unfolding chars
push_alternative-loop-other-preserved t c =
    less_ahead (λ z. further_symbols (gathered (map symbol_of z))) c.in-Some.others.now c.loop-other.other-index c.other-item.result c.other-item.result c.other-item.is c.loop-other-test.true
    c.loop-other.invariant (adds (says (λ ps. blank ∷ ps) c.in_ok-push_text.ensures (λ _. refl)) c.in_ok-push_symbol-2.ensures) (λ _. refl)

pub push_alternative-returns : goal.push_alternative-returns
push_alternative-returns t c =
    none_ahead (λ z. further_symbols (gathered (map symbol_of z))) c.in-Some.others.now c.loop-other.other-index c.loop-other-test.false (λ _. refl) c.loop-other.invariant

pub push_alternatives-loop-other-init : goal.push_alternatives-loop-other-init
push_alternatives-loop-other-init t c =
    subst (λ z. Ahead (string_bytes c.args.out.now) (string_bytes c.push_alternative.new.out) (alternatives_pieces (gathered_alternatives z)) (further_alternatives (gathered_alternatives c.in-Some.others.now))) c.as_slice.ensures
    (subst (λ z. Ahead (string_bytes c.args.out.now) (string_bytes c.push_alternative.new.out) (alternatives_pieces (gathered_alternatives z)) (further_alternatives (gathered_alternatives c.in-Some.others.now))) (sym c.in-Some.ensures.cases.0)
    (first_written (further_alternatives (gathered_alternatives c.in-Some.others.now)) c.in_ok-push_alternative.ensures))

pub push_alternatives-loop-other-preserved : goal.push_alternatives-loop-other-preserved
unfolding chars
push_alternatives-loop-other-preserved t c =
    less_ahead (λ z. further_alternatives (gathered_alternatives z)) c.in-Some.others.now c.loop-other.other-index c.other-item.result c.other-item.result c.other-item.is c.loop-other-test.true
    c.loop-other.invariant (adds (says (λ ps. blank ∷ token sign.Bar ∷ blank ∷ ps) c.in_ok-push_text.ensures (λ _. refl)) c.in_ok-push_alternative-2.ensures) (λ _. refl)

pub push_alternatives-returns : goal.push_alternatives-returns
push_alternatives-returns t c =
    none_ahead (λ z. further_alternatives (gathered_alternatives z)) c.in-Some.others.now c.loop-other.other-index c.loop-other-test.false (λ _. refl) c.loop-other.invariant

pub push_alternative-push_symbol-requires-in-loop-other : goal.push_alternative-push_symbol-requires-in-loop-other
push_alternative-push_symbol-requires-in-loop-other t c = (
  omega (
    arith,
    symbol_falls c.other-item.result,
    other_symbol c.as_slice.result.now c.in-Some.others.now c.in-Some.first.now c.other-item.result c.loop-other.other-index c.args.symbols.now
        c.as_slice.ensures c.in-Some.ensures.cases.0 c.other-item.is c.loop-other-test.true,
  ),
  tt,
)

pub push_alternatives-push_alternative-requires-in-loop-other : goal.push_alternatives-push_alternative-requires-in-loop-other
push_alternatives-push_alternative-requires-in-loop-other t c = (
  omega (
    arith,
    alternative_falls c.other-item.result,
    other_alternative c.as_slice.result.now c.in-Some.others.now c.args.alternatives.now c.in-Some.first.now c.other-item.result c.loop-other.other-index
        c.as_slice.ensures c.in-Some.ensures.cases.0 c.other-item.is c.loop-other-test.true,
  ),
  tt,
)

pub push_symbol-returns-in_ok-push_label-in-Label : goal.push_symbol-returns-in_ok-push_label-in-Label
push_symbol-returns-in_ok-push_label-in-Label t c = rw c.in-Label.is (if_ok c.push_inner.result c.push_inner.ensures (λ h. adds c.in_ok-push_label-in-Label.ensures h))

pub push_symbol-returns-in-Opt : goal.push_symbol-returns-in-Opt
unfolding chars
push_symbol-returns-in-Opt t c = rw c.in-Opt.is (if_ok c.push_ended.result c.push_ended.ensures (λ h. says_before (λ ps. token sign.Question ∷ ps) h (λ _. refl)))

pub push_symbol-returns-in-Star : goal.push_symbol-returns-in-Star
unfolding chars
push_symbol-returns-in-Star t c = rw c.in-Star.is (if_ok c.push_ended-in-Star.result c.push_ended-in-Star.ensures (λ h. says_before (λ ps. token sign.Star ∷ ps) h (λ _. refl)))

pub push_symbol-returns-in-Plus : goal.push_symbol-returns-in-Plus
unfolding chars
push_symbol-returns-in-Plus t c = rw c.in-Plus.is (if_ok c.push_ended-in-Plus.result c.push_ended-in-Plus.ensures (λ h. says_before (λ ps. token sign.Plus ∷ ps) h (λ _. refl)))

pub push_symbol-returns-in_ok-push_opened-in-SepStar : goal.push_symbol-returns-in_ok-push_opened-in-SepStar
unfolding chars
push_symbol-returns-in_ok-push_opened-in-SepStar t c =
    rw c.in-SepStar.is (if_ok c.push_ended-in-SepStar.result c.push_ended-in-SepStar.ensures
    (λ h. adds c.in_ok-push_opened-in-SepStar.ensures (says_before (λ ps. token sign.CloseBrace ∷ token sign.Star ∷ ps) h (λ _. refl))))

pub push_symbol-returns-in_ok-push_opened-in-SepPlus : goal.push_symbol-returns-in_ok-push_opened-in-SepPlus
unfolding chars
push_symbol-returns-in_ok-push_opened-in-SepPlus t c =
    rw c.in-SepPlus.is (if_ok c.push_ended-in-SepPlus.result c.push_ended-in-SepPlus.ensures
    (λ h. adds c.in_ok-push_opened-in-SepPlus.ensures (says_before (λ ps. token sign.CloseBrace ∷ token sign.Plus ∷ ps) h (λ _. refl))))

pub push_symbol-returns-in-Offside : goal.push_symbol-returns-in-Offside
unfolding chars
push_symbol-returns-in-Offside t c = rw c.in-Offside.is (if_ok c.push_marked.result c.push_marked.ensures (λ h. says_behind (λ ps. token sign.Offside ∷ blank ∷ ps) h (λ _. refl)))

pub push_symbol-returns-in-Ignore : goal.push_symbol-returns-in-Ignore
unfolding chars
push_symbol-returns-in-Ignore t c = rw c.in-Ignore.is (if_ok c.push_marked-in-Ignore.result c.push_marked-in-Ignore.ensures (λ h. says_behind (λ ps. token sign.Ignore ∷ blank ∷ ps) h (λ _. refl)))

pub push_symbol-returns-in-Align : goal.push_symbol-returns-in-Align
unfolding chars
push_symbol-returns-in-Align t c = rw c.in-Align.is (if_ok c.push_marked-in-Align.result c.push_marked-in-Align.ensures (λ h. says_behind (λ ps. token sign.Align ∷ blank ∷ ps) h (λ _. refl)))

pub push_ended-returns : goal.push_ended-returns
push_ended-returns t c = if_ok c.push_text.result c.push_text.ensures (λ h. adds_before (shown_as symbol_pieces c.as_symbol.ensures c.in_ok-push_symbol.ensures) h)

pub push_marked-returns : goal.push_marked-returns
push_marked-returns t c = if_ok c.push_symbol.result c.push_symbol.ensures (λ h. adds_behind c.in_ok-push_text.ensures (shown_as symbol_pieces c.as_symbol.ensures h))

pub push_opened-returns : goal.push_opened-returns
unfolding chars
push_opened-returns t c =
    if_ok c.push_text-2.result c.push_text-2.ensures
    (λ h. adds (says (λ ps. token sign.OpenBrace ∷ ps) c.in_ok-push_text.ensures (λ _. refl))
    (adds (shown_as symbol_pieces c.as_symbol.ensures c.in_ok-push_symbol.ensures) (says (λ ps. blank ∷ ps) h (λ _. refl))))
