use Rattle.std.proofs.Common.{[], ◌∷◌, refl}
use Rattle.std.proofs.Math.Nat.{le_trans}
use Rattle.std.proofs.lemmas.Result.{IfOk-weaker, IfErr-weaker}
use Rattle.ig_notation_syntax.specs.Rules.{ReadsSymbol}
use Rattle.ig_notation_syntax.specs.Machine as want
use Rattle.ig_notation_syntax.specs.Machine.{alternatives_wants}
use Rattle.ig_notation_terms.specs.Steps.{stop_later, stop_first, stop_token, runs_of, behind, farther, memory, exits}
use Rattle.ig_notation.proofs.SymbolParts.{more_symbols, symbol_stops, all_symbols, more_alternatives, all_alternatives, unlabelled, labelled, labelled_stops, mark_row, marked, unmarked, both_ok, label_passed, mark_passed, later, in_braces, item_stops, separator_stops, list_stops, in_brackets, alternatives_stop, group_stops}
use Rattle.ig_notation.proofs.symbols.+symbols.Goals as goal

pub read_alternative-returns-in_err-symbol-clause-err : goal.read_alternative-returns-in_err-symbol-clause-err
read_alternative-returns-in_err-symbol-clause-err t c =
    exits _ _ _ c.from_residual.ensures.1
    (symbol_stops _ _ _ _ _ c.loop-alloc.invariant (c.begins_symbol.ensures.yes c.loop-alloc-test.true) c.in_err-symbol.ensures.err)

pub read_alternative-loop-alloc-preserved : goal.read_alternative-loop-alloc-preserved
read_alternative-loop-alloc-preserved t c =
    more_symbols _ _ _ _ _ _ _ c.loop-alloc.invariant (c.begins_symbol.ensures.yes c.loop-alloc-test.true) c.in_ok-symbol.ensures.ok c.in_ok-add_symbol.ensures.ok

pub read_alternative-returns-clause-ok : goal.read_alternative-returns-clause-ok
read_alternative-returns-clause-ok t c = all_symbols _ _ _ _ c.loop-alloc.invariant (c.begins_symbol.ensures.no c.loop-alloc-test.false)

pub read_alternatives-returns-then-not-stands_at-clause-ok : goal.read_alternatives-returns-then-not-stands_at-clause-ok
read_alternatives-returns-then-not-stands_at-clause-ok t c =
    all_alternatives _ _ _ _ _ _ _ c.loop-alternatives.invariant c.in_ok-symbols.ensures.ok (c.stands_at.ensures.no c.if-not-stands_at.true)
    c.in_ok-add_alternative.ensures.ok

pub read_alternatives-loop-alternatives-preserved : goal.read_alternatives-loop-alternatives-preserved
read_alternatives-loop-alternatives-preserved t c =
    more_alternatives _ _ _ _ _ _ _ c.loop-alternatives.invariant c.in_ok-symbols.ensures.ok (c.stands_at.ensures.yes c.if-not-stands_at.false)
    c.in_ok-add_alternative.ensures.ok

pub read_alternatives-returns-in_err-symbols-clause-err : goal.read_alternatives-returns-in_err-symbols-clause-err
read_alternatives-returns-in_err-symbols-clause-err t c =
    exits _ _ _ c.from_residual.ensures.1
    (stop_later alternatives_wants alternatives_wants _ _ _ _ (runs_of _ _ _ _ _ _ _ c.loop-alternatives.invariant)
    (stop_first (want.alternative ∷ []) (want.alternatives_rest ∷ []) _ _ _ c.in_err-symbols.ensures.err))

pub read_symbol-returns-in-Guard : goal.read_symbol-returns-in-Guard
read_symbol-returns-in-Guard t c =
    let s = c.in-Guard.ensures in
    record {
      ok = IfOk-weaker _ _ _ (λ x g. behind ReadsSymbol want.symbol _ _ _ _ _ _ _ s refl g) c.read_guard.ensures.ok;
      progress = IfOk-weaker _ _ _ (λ x g. farther _ _ _ _ _ _ _ g) c.read_guard.ensures.ok;
      err = IfErr-weaker _ _ _ (λ e h. stop_token want.symbol _ _ _ _ e s refl h) c.read_guard.ensures.err;
    }

pub read_symbol-returns-in-Let : goal.read_symbol-returns-in-Let
read_symbol-returns-in-Let t c =
    let s = c.in-Let.ensures in
    record {
      ok = IfOk-weaker _ _ _ (λ x g. behind ReadsSymbol want.symbol _ _ _ _ _ _ _ s refl g) c.read_let.ensures.ok;
      progress = IfOk-weaker _ _ _ (λ x g. farther _ _ _ _ _ _ _ g) c.read_let.ensures.ok;
      err = IfErr-weaker _ _ _ (λ e h. stop_token want.symbol _ _ _ _ e s refl h) c.read_let.ensures.err;
    }

pub read_symbol-returns-in_err-symbol-in-Label-clause-err : goal.read_symbol-returns-in_err-symbol-in-Label-clause-err
read_symbol-returns-in_err-symbol-in-Label-clause-err t c =
    exits _ _ _ c.from_residual.ensures.1 (labelled_stops _ _ _ _ c.in-Label.ensures c.in_err-symbol-in-Label.ensures.err)

pub read_symbol-returns-in_ok-symbol-in-Label : goal.read_symbol-returns-in_ok-symbol-in-Label
read_symbol-returns-in_ok-symbol-in-Label t c =
    record {
      ok =
          both_ok _ _ _ _ (λ r e f. labelled _ _ _ _ _ _ _ c.in-Label.ensures c.in_ok-symbol-in-Label.ensures.ok e f)
          c.labelled.ensures.ok c.labelled.ensures.end;
      progress = IfOk-weaker _ _ _ (λ r f. label_passed _ _ _ c.in_ok-symbol-in-Label.ensures.progress f) c.labelled.ensures.end;
      err = IfErr-weaker _ _ _ (λ e h. memory _ _ _ e h) c.labelled.ensures.err;
    }

pub read_symbol-returns-in-Marked : goal.read_symbol-returns-in-Marked
read_symbol-returns-in-Marked t c =
    let r = c.in-Marked.ensures in
    record {
      ok = IfOk-weaker _ _ _ (λ x g. unlabelled _ _ _ _ r g) c.read_marked-in-Marked.ensures.ok;
      progress = c.read_marked-in-Marked.ensures.progress;
      err = IfErr-weaker _ _ _ (λ e s. stop_later _ _ _ _ _ e r s) c.read_marked-in-Marked.ensures.err;
    }

pub read_marked-returns-in_default : goal.read_marked-returns-in_default
read_marked-returns-in_default t c =
    let r = c.in_default.ensures in
    record {
      ok = IfOk-weaker _ _ _ (λ x g. unmarked _ _ _ _ r g) c.read_unmarked.ensures.ok;
      progress = c.read_unmarked.ensures.progress;
      err = IfErr-weaker _ _ _ (λ e s. stop_later _ _ _ _ _ e r s) c.read_unmarked.ensures.err;
    }

pub read_marked-returns-in_err-symbol-clause-err : goal.read_marked-returns-in_err-symbol-clause-err
read_marked-returns-in_err-symbol-clause-err t c =
    exits _ _ _ c.from_residual.ensures.1
    (stop_token want.marked (want.post ∷ []) _ _ _ _ c.in-Some.ensures (mark_row _) c.in_err-symbol.ensures.err)

pub read_marked-returns : goal.read_marked-returns
read_marked-returns t c =
    record {
      ok = both_ok _ _ _ _ (λ r e f. marked _ _ _ _ _ _ _ c.in-Some.ensures c.in_ok-symbol.ensures.ok e f) c.marked.ensures.ok c.marked.ensures.end;
      progress = IfOk-weaker _ _ _ (λ r f. mark_passed _ _ _ c.in_ok-symbol.ensures.progress f) c.marked.ensures.end;
      err = IfErr-weaker _ _ _ (λ e h. memory _ _ _ e h) c.marked.ensures.err;
    }

pub read_unmarked-returns-in_err-item-in-Brace-clause-err : goal.read_unmarked-returns-in_err-item-in-Brace-clause-err
read_unmarked-returns-in_err-item-in-Brace-clause-err t c =
    exits _ _ _ c.from_residual.ensures.1 (item_stops _ _ _ c.in-Brace.ensures c.in_err-item-in-Brace.ensures.err)

pub read_unmarked-returns-in-Ok : goal.read_unmarked-returns-in-Ok
read_unmarked-returns-in-Ok t c =
    record {
      ok =
          IfOk-weaker _ _ _ (λ x g. in_braces _ _ _ _ _ _ _ _ c.in-Brace.ensures c.in_ok-item-in-Brace.ensures.ok c.in-Ok.ensures.ok g)
          c.read_list_end.ensures.ok;
      progress =
          IfOk-weaker _ _ _ (λ x g. le_trans (later _ _ _ c.in_ok-item-in-Brace.ensures.progress c.in-Ok.ensures.progress) g.onward)
          c.read_list_end.ensures.ok;
      err =
          IfErr-weaker _ _ _ (λ e s. list_stops _ _ _ _ _ _ e c.in-Brace.ensures c.in_ok-item-in-Brace.ensures.ok c.in-Ok.ensures.ok s)
          c.read_list_end.ensures.err;
    }

pub read_unmarked-returns-in-Err-clause-err : goal.read_unmarked-returns-in-Err-clause-err
read_unmarked-returns-in-Err-clause-err t c =
    separator_stops _ _ _ _ _ c.in-Brace.ensures c.in_ok-item-in-Brace.ensures.ok c.in-Err.ensures.err

pub read_unmarked-returns-in_err-alternatives-in-Bracket-clause-err : goal.read_unmarked-returns-in_err-alternatives-in-Bracket-clause-err
read_unmarked-returns-in_err-alternatives-in-Bracket-clause-err t c =
    exits _ _ _ c.from_residual-in_err-alternatives-in-Bracket.ensures.1
    (alternatives_stop _ _ _ c.in-Bracket.ensures c.in_err-alternatives-in-Bracket.ensures.err)

pub read_unmarked-returns-in_ok-alternatives-in-Bracket : goal.read_unmarked-returns-in_ok-alternatives-in-Bracket
read_unmarked-returns-in_ok-alternatives-in-Bracket t c =
    record {
      ok =
          IfOk-weaker _ _ _ (λ x g. in_brackets _ _ _ _ _ _ c.in-Bracket.ensures c.in_ok-alternatives-in-Bracket.ensures.ok g)
          c.read_group_end.ensures.ok;
      progress =
          IfOk-weaker _ _ _ (λ x g. le_trans (farther _ _ _ _ _ _ _ c.in_ok-alternatives-in-Bracket.ensures.ok) g.onward)
          c.read_group_end.ensures.ok;
      err =
          IfErr-weaker _ _ _ (λ e s. group_stops _ _ _ _ e c.in-Bracket.ensures c.in_ok-alternatives-in-Bracket.ensures.ok s)
          c.read_group_end.ensures.err;
    }
