use Rattle.std.proofs.Common.{rules, refl, [], ◌∷◌}
use Rattle.std.proofs.lemmas.Result.{IfOk-weaker, IfErr-weaker}
use Rattle.ig_expr.specs.Expression.{Truth}
use Rattle.ig_expr.specs.Expression as tree
use Rattle.std.specs.Prelude.{true, false}
use Rattle.ig_notation_syntax.specs.Rules as rule
use Rattle.ig_notation_syntax.specs.Rules.{ReadsExpression}
use Rattle.ig_notation_syntax.specs.Token.{Comma, Literal}
use Rattle.ig_notation_syntax.specs.Machine as want
use Rattle.ig_notation_terms.specs.Readers.{at_token}
use Rattle.ig_notation_terms.specs.Steps.{stands_as, stops_here, missed, stop_later, stop_first, stop_past, stop_token, stop_sign, stop_next, stop_end, exits, by_itself}
use Rattle.ig_notation_terms.proofs.ExpressionParts.{opposite, negative, unsigned, plain_expression, alone, operation, second_stops, applies, same, spells, numeral, no_larger, variable, in_brackets, called, called_stops}
use Rattle.ig_notation_terms.proofs.expressions.+expressions.Goals as goal

pub read_expression-returns-in_ok-new-in-Not-clause-ok : goal.read_expression-returns-in_ok-new-in-Not-clause-ok
read_expression-returns-in_ok-new-in-Not-clause-ok t c =
    opposite _ _ _ _ _ (stands_as _ _ _ _ c.in_ok-ahead.ensures.ok c.in-Not.is) c.in_ok-operand-in-Not.ensures.ok c.in_ok-new-in-Not.ensures

pub read_expression-returns-in_ok-new-in-Minus-clause-ok : goal.read_expression-returns-in_ok-new-in-Minus-clause-ok
read_expression-returns-in_ok-new-in-Minus-clause-ok t c =
    negative _ _ _ _ _ (stands_as _ _ _ _ c.in_ok-ahead.ensures.ok c.in-Minus.is) c.in_ok-operand-in-Minus.ensures.ok c.in_ok-new-in-Minus.ensures

pub read_expression-returns-in_default : goal.read_expression-returns-in_default
read_expression-returns-in_default t c =
    let r = unsigned _ _ _ c.in_ok-ahead.ensures.ok (search rules) in
    record {
      ok = IfOk-weaker _ _ _ (λ x g. plain_expression _ _ _ _ r g) c.read_operation.ensures.ok;
      err = IfErr-weaker _ _ _ (λ e s. stop_later _ _ _ _ _ e r s) c.read_operation.ensures.err;
    }

pub read_function-returns-in_ok-new-in-One-clause-ok : goal.read_function-returns-in_ok-new-in-One-clause-ok
read_function-returns-in_ok-new-in-One-clause-ok t c =
    applies _ _ _ _ _ _ _ c.in-One.is c.in_ok-operand-in-One.ensures.ok c.in_ok-new-in-One.ensures

pub read_operation-returns-in_default-clause-ok : goal.read_operation-returns-in_default-clause-ok
read_operation-returns-in_default-clause-ok t c = alone _ _ _ _ c.in_ok-left.ensures.ok c.in_default.ensures

pub read_operation-returns-in_err-right-clause-err : goal.read_operation-returns-in_err-right-clause-err
read_operation-returns-in_err-right-clause-err t c =
    exits _ _ _ c.from_residual-in_err-right.ensures.1 (second_stops _ _ _ _ _ _ c.in_ok-left.ensures.ok c.in-Some.ensures c.in_err-right.ensures.err)

pub read_operation-returns-clause-ok : goal.read_operation-returns-clause-ok
read_operation-returns-clause-ok t c =
    operation _ _ _ _ _ _ _ _ _ c.in_ok-left.ensures.ok c.in-Some.ensures c.in_ok-right.ensures.ok c.in_ok-left-2.ensures c.in_ok-right-2.ensures

pub read_same-returns-clause-ok : goal.read_same-returns-clause-ok
read_same-returns-clause-ok t c =
    same _ _ _ _ _ _ _ _ _ c.in_ok-first.ensures.ok c.in_ok-end.ensures.ok c.in_ok-second.ensures.ok c.in_ok-first-2.ensures c.in_ok-second-2.ensures

pub read_spells-returns-clause-ok : goal.read_spells-returns-clause-ok
read_spells-returns-clause-ok t c =
    spells _ _ _ _ _ _ _ _ c.in_ok-operand.ensures.ok c.in_ok-end.ensures.ok c.in_ok-text.ensures.ok c.in_ok-end-2.ensures.ok c.in_ok-operand-2.ensures

pub read_term-unreachable-requires : goal.read_term-unreachable-requires
read_term-unreachable-requires t c =
    no_larger _ _ _ c.numbers_fit.ensures (stands_as _ _ _ _ c.in_ok-digits.ensures.ok c.in-Number.is) c.in-None.ensures

pub read_term-returns-in-Some-clause-ok : goal.read_term-returns-in-Some-clause-ok
read_term-returns-in-Some-clause-ok t c = numeral _ _ _ _ (stands_as _ _ _ _ c.in_ok-digits.ensures.ok c.in-Number.is) (search rules)

pub read_term-returns-in-True-clause-ok : goal.read_term-returns-in-True-clause-ok
read_term-returns-in-True-clause-ok t c =
    by_itself _ _ _ _ _ _ (Truth true) (stands_as _ _ _ _ c.in_ok-digits.ensures.ok c.in-True.is) refl (λ r. rule.truth r)

pub read_term-returns-in-False-clause-ok : goal.read_term-returns-in-False-clause-ok
read_term-returns-in-False-clause-ok t c =
    by_itself _ _ _ _ _ _ (Truth false) (stands_as _ _ _ _ c.in_ok-digits.ensures.ok c.in-False.is) refl (λ r. rule.falsehood r)

pub read_term-returns-in-Here-clause-ok : goal.read_term-returns-in-Here-clause-ok
read_term-returns-in-Here-clause-ok t c =
    by_itself _ _ _ _ _ _ tree.Here (stands_as _ _ _ _ c.in_ok-digits.ensures.ok c.in-Here.is) refl (λ r. rule.here r)

pub read_term-returns-in_ok-new-in-Name-clause-ok : goal.read_term-returns-in_ok-new-in-Name-clause-ok
read_term-returns-in_ok-new-in-Name-clause-ok t c =
    variable _ _ _ _ (stands_as _ _ _ _ c.in_ok-digits.ensures.ok c.in-Name.is) c.in_ok-new-in-Name.ensures

pub read_term-returns-in-Open-clause-ok : goal.read_term-returns-in-Open-clause-ok
read_term-returns-in-Open-clause-ok t c =
    let s = stands_as _ _ _ _ c.in_ok-digits.ensures.ok c.in-Open.is in
    IfOk-weaker _ _ _ (λ x g. in_brackets _ _ _ _ s g) c.read_closed.ensures.ok

pub read_term-returns-in-Some-function_named-clause-ok : goal.read_term-returns-in-Some-function_named-clause-ok
read_term-returns-in-Some-function_named-clause-ok t c =
    let s = stands_as _ _ _ _ c.in_ok-digits.ensures.ok c.in-Head.is in
    IfOk-weaker _ _ _ (λ x g. called _ _ _ _ _ _ s c.in-Some-function_named.ensures g) c.read_function.ensures.ok

pub read_term-returns-in-Some-function_named-clause-err : goal.read_term-returns-in-Some-function_named-clause-err
read_term-returns-in-Some-function_named-clause-err t c =
    let s = stands_as _ _ _ _ c.in_ok-digits.ensures.ok c.in-Head.is in
    IfErr-weaker _ _ _ (λ e h. called_stops _ _ _ _ e s c.in-Some-function_named.ensures h) c.read_function.ensures.err

pub read_expression-returns-in_err-ahead-clause-err : goal.read_expression-returns-in_err-ahead-clause-err
read_expression-returns-in_err-ahead-clause-err t c =
    exits _ _ _ c.from_residual.ensures.1
    (stop_end want.expression [] _ _ _ refl c.in_err-ahead.ensures.err)

pub read_expression-returns-in_err-operand-in-Not-clause-err : goal.read_expression-returns-in_err-operand-in-Not-clause-err
read_expression-returns-in_err-operand-in-Not-clause-err t c =
    exits _ _ _ c.from_residual-in_err-operand-in-Not.ensures.1
    (stop_token want.expression (want.term ∷ []) _ _ _ _ (stands_as _ _ _ _ c.in_ok-ahead.ensures.ok c.in-Not.is) refl c.in_err-operand-in-Not.ensures.err)

pub read_expression-returns-in_err-operand-in-Minus-clause-err : goal.read_expression-returns-in_err-operand-in-Minus-clause-err
read_expression-returns-in_err-operand-in-Minus-clause-err t c =
    exits _ _ _ c.from_residual-in_err-operand-in-Minus.ensures.1
    (stop_token want.expression (want.term ∷ []) _ _ _ _ (stands_as _ _ _ _ c.in_ok-ahead.ensures.ok c.in-Minus.is) refl c.in_err-operand-in-Minus.ensures.err)

pub read_operation-returns-in_err-left-clause-err : goal.read_operation-returns-in_err-left-clause-err
read_operation-returns-in_err-left-clause-err t c =
    exits _ _ _ c.from_residual.ensures.1
    (stop_first (want.term ∷ []) (want.operator_rest ∷ []) _ _ _ c.in_err-left.ensures.err)

pub read_term-returns-in_err-digits-clause-err : goal.read_term-returns-in_err-digits-clause-err
read_term-returns-in_err-digits-clause-err t c =
    exits _ _ _ c.from_residual.ensures.1
    (stop_end want.term [] _ _ _ refl c.in_err-digits.ensures.err)

pub read_term-returns-in_default-clause-err : goal.read_term-returns-in_default-clause-err
read_term-returns-in_default-clause-err t c =
    stops_here want.term [] _ _ refl (at_token _ c.in_ok-digits.ensures.ok (search rules))

pub read_term-returns-in-Open-clause-err : goal.read_term-returns-in-Open-clause-err
read_term-returns-in-Open-clause-err t c =
    let s = stands_as _ _ _ _ c.in_ok-digits.ensures.ok c.in-Open.is in
    IfErr-weaker _ _ _ (λ e h. stop_token want.term (want.expression ∷ want.close_bracket ∷ []) _ _ _ e s refl h) c.read_closed.ensures.err

pub read_closed-returns-in_err-expression-clause-err : goal.read_closed-returns-in_err-expression-clause-err
read_closed-returns-in_err-expression-clause-err t c =
    exits _ _ _ c.from_residual.ensures.1
    (stop_first (want.expression ∷ []) (want.close_bracket ∷ []) _ _ _ c.in_err-expression.ensures.err)

pub read_same-returns-in_err-first-clause-err : goal.read_same-returns-in_err-first-clause-err
read_same-returns-in_err-first-clause-err t c =
    exits _ _ _ c.from_residual.ensures.1
    (stop_first (want.expression ∷ []) (want.comma ∷ want.expression ∷ want.close_bracket ∷ []) _ _ _ c.in_err-first.ensures.err)

pub read_same-returns-in_err-end-clause-err : goal.read_same-returns-in_err-end-clause-err
read_same-returns-in_err-end-clause-err t c =
    exits _ _ _ c.from_residual-in_err-end.ensures.1
    (stop_past ReadsExpression (want.expression ∷ []) (want.comma ∷ want.expression ∷ want.close_bracket ∷ []) _ _ _ _ _ c.in_ok-first.ensures.ok
    (missed want.comma (want.expression ∷ want.close_bracket ∷ []) _ _ _ refl c.in_err-end.ensures.err))

pub read_same-returns-in_err-second-clause-err : goal.read_same-returns-in_err-second-clause-err
read_same-returns-in_err-second-clause-err t c =
    exits _ _ _ c.from_residual-in_err-second.ensures.1
    (stop_past ReadsExpression (want.expression ∷ []) (want.comma ∷ want.expression ∷ want.close_bracket ∷ []) _ _ _ _ _ c.in_ok-first.ensures.ok
    (stop_sign want.comma Comma (want.expression ∷ want.close_bracket ∷ []) _ _ _ _ c.in_ok-end.ensures.ok refl c.in_err-second.ensures.err))

pub read_spells-returns-in_err-operand-clause-err : goal.read_spells-returns-in_err-operand-clause-err
read_spells-returns-in_err-operand-clause-err t c =
    exits _ _ _ c.from_residual.ensures.1
    (stop_first (want.expression ∷ []) (want.comma ∷ want.literal ∷ want.close_bracket ∷ []) _ _ _ c.in_err-operand.ensures.err)

pub read_spells-returns-in_err-end-clause-err : goal.read_spells-returns-in_err-end-clause-err
read_spells-returns-in_err-end-clause-err t c =
    exits _ _ _ c.from_residual-in_err-end.ensures.1
    (stop_past ReadsExpression (want.expression ∷ []) (want.comma ∷ want.literal ∷ want.close_bracket ∷ []) _ _ _ _ _ c.in_ok-operand.ensures.ok
    (missed want.comma (want.literal ∷ want.close_bracket ∷ []) _ _ _ refl c.in_err-end.ensures.err))

pub read_spells-returns-in_err-text-clause-err : goal.read_spells-returns-in_err-text-clause-err
read_spells-returns-in_err-text-clause-err t c =
    exits _ _ _ c.from_residual-in_err-text.ensures.1
    (stop_past ReadsExpression (want.expression ∷ []) (want.comma ∷ want.literal ∷ want.close_bracket ∷ []) _ _ _ _ _ c.in_ok-operand.ensures.ok
    (stop_sign want.comma Comma (want.literal ∷ want.close_bracket ∷ []) _ _ _ _ c.in_ok-end.ensures.ok refl
    (stop_first (want.literal ∷ []) (want.close_bracket ∷ []) _ _ _ c.in_err-text.ensures.err)))

pub read_spells-returns-in_err-end-2-clause-err : goal.read_spells-returns-in_err-end-2-clause-err
read_spells-returns-in_err-end-2-clause-err t c =
    exits _ _ _ c.from_residual-in_err-end-2.ensures.1
    (stop_past ReadsExpression (want.expression ∷ []) (want.comma ∷ want.literal ∷ want.close_bracket ∷ []) _ _ _ _ _ c.in_ok-operand.ensures.ok
    (stop_sign want.comma Comma (want.literal ∷ want.close_bracket ∷ []) _ _ _ _ c.in_ok-end.ensures.ok refl
    (stop_next want.literal (Literal _) (want.close_bracket ∷ []) _ _ _ c.in_ok-text.ensures.ok refl
    (missed want.close_bracket [] _ _ _ refl c.in_err-end-2.ensures.err))))
