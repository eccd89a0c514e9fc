use Rattle.std.proofs.Common.{◌∷◌, refl}
use Rattle.std.specs.Prelude.{codes}
use Rattle.std.specs.Str.{chars}
use Rattle.ig_notation_syntax.specs.Token as sign
use Rattle.ig_notation_syntax.specs.Token.{Name, Head, Comma, Open, Close}
use Rattle.ig_show.specs.Pieces.{token, blank}
use Rattle.ig_show.specs.CanonicalText.{expression_pieces}
use Rattle.ig_show.specs.Steps.{if_ok, adds, says}
use Rattle.ig_show.proofs.Steps.{says_before, adds_before, shown_as}
use Rattle.ig_show.proofs.expressions.+expressions.Goals as goal

pub push_expression-returns-in-Here : goal.push_expression-returns-in-Here
unfolding chars
push_expression-returns-in-Here t c = rw c.in-Here.is (if_ok c.push_text.result c.push_text.ensures (λ h. says (λ ps. token sign.Here ∷ ps) h (λ _. refl)))

pub push_expression-returns-in_ok-push_text-in-Not : goal.push_expression-returns-in_ok-push_text-in-Not
unfolding chars
push_expression-returns-in_ok-push_text-in-Not t c = rw c.in-Not.is (if_ok c.push_part.result c.push_part.ensures (λ h. adds (says (λ ps. token sign.Not ∷ blank ∷ ps) c.in_ok-push_text-in-Not.ensures (λ _. refl)) h))

pub push_expression-returns-in_ok-push_text-in-Neg : goal.push_expression-returns-in_ok-push_text-in-Neg
unfolding chars
push_expression-returns-in_ok-push_text-in-Neg t c = rw c.in-Neg.is (if_ok c.push_part-in-Neg.result c.push_part-in-Neg.ensures (λ h. adds (says (λ ps. token sign.Minus ∷ blank ∷ ps) c.in_ok-push_text-in-Neg.ensures (λ _. refl)) h))

pub push_expression-returns-in_ok-push_operator-in-Binary : goal.push_expression-returns-in_ok-push_operator-in-Binary
unfolding chars
push_expression-returns-in_ok-push_operator-in-Binary t c = rw c.in-Binary.is (if_ok c.push_part-in-Binary-2.result c.push_part-in-Binary-2.ensures (λ h. adds c.in_ok-push_part-in-Binary.ensures (adds c.in_ok-push_operator-in-Binary.ensures h)))

pub push_part-returns-in_ok-push_expression : goal.push_part-returns-in_ok-push_expression
unfolding chars
push_part-returns-in_ok-push_expression t c =
    rw (← c.as_expr-expression.ensures, ← c.if-has_operator.ensures)
    (if_ok c.push_text-then-has_operator.result c.push_text-then-has_operator.ensures
    (λ h. adds (says (λ ps. token Open ∷ ps) c.in_ok-push_text.ensures (λ _. refl)) (adds c.in_ok-push_expression.ensures (says (λ ps. token Close ∷ ps) h (λ _. refl)))))

pub push_expression-returns-in_ok-push_function-in-Of : goal.push_expression-returns-in_ok-push_function-in-Of
unfolding chars
push_expression-returns-in_ok-push_function-in-Of t c = rw c.in-Of.is (if_ok c.push_argument.result c.push_argument.ensures (λ h. adds c.in_ok-push_function-in-Of.ensures (says_before (λ ps. token Close ∷ ps) h (λ _. refl))))

pub push_expression-returns-in_ok-push_argument-in-Same : goal.push_expression-returns-in_ok-push_argument-in-Same
unfolding chars
push_expression-returns-in_ok-push_argument-in-Same t c =
    rw c.in-Same.is (if_ok c.push_argument-in-Same-2.result c.push_argument-in-Same-2.ensures
    (λ h. adds (says (λ ps. token (Head (codes "same")) ∷ ps) c.in_ok-push_text-in-Same.ensures (λ _. refl))
    (adds (says_before (λ ps. token Comma ∷ blank ∷ ps) c.in_ok-push_argument-in-Same.ensures (λ _. refl)) (says_before (λ ps. token Close ∷ ps) h (λ _. refl)))))

pub push_expression-returns-in_ok-push_argument-in-Outer : goal.push_expression-returns-in_ok-push_argument-in-Outer
unfolding chars
push_expression-returns-in_ok-push_argument-in-Outer t c =
    rw c.in-Outer.is (if_ok c.push_argument-in-Outer-2.result c.push_argument-in-Outer-2.ensures
    (λ h. adds (says (λ ps. token (Head (codes "outer")) ∷ ps) c.in_ok-push_text-in-Outer.ensures (λ _. refl))
    (adds (says_before (λ ps. token Comma ∷ blank ∷ ps) c.in_ok-push_argument-in-Outer.ensures (λ _. refl)) (says_before (λ ps. token Close ∷ ps) h (λ _. refl)))))

pub push_expression-returns-in_ok-push_argument-in-Inside : goal.push_expression-returns-in_ok-push_argument-in-Inside
unfolding chars
push_expression-returns-in_ok-push_argument-in-Inside t c =
    rw c.in-Inside.is (if_ok c.push_argument-in-Inside-2.result c.push_argument-in-Inside-2.ensures
    (λ h. adds (says (λ ps. token (Head (codes "inside")) ∷ ps) c.in_ok-push_text-in-Inside.ensures (λ _. refl))
    (adds (says_before (λ ps. token Comma ∷ blank ∷ ps) c.in_ok-push_argument-in-Inside.ensures (λ _. refl)) (says_before (λ ps. token Close ∷ ps) h (λ _. refl)))))

pub push_expression-returns-in_ok-push_argument-in-Spells : goal.push_expression-returns-in_ok-push_argument-in-Spells
unfolding chars
push_expression-returns-in_ok-push_argument-in-Spells t c =
    rw c.in-Spells.is (if_ok c.push_last_word.result c.push_last_word.ensures
    (λ h. adds (says (λ ps. token (Head (codes "spells")) ∷ ps) c.in_ok-push_text-in-Spells.ensures (λ _. refl))
    (adds (says_before (λ ps. token Comma ∷ blank ∷ ps) c.in_ok-push_argument-in-Spells.ensures (λ _. refl)) h)))

pub push_expression-returns-in_ok-push_text-in-FreeBefore : goal.push_expression-returns-in_ok-push_text-in-FreeBefore
unfolding chars
push_expression-returns-in_ok-push_text-in-FreeBefore t c =
    rw c.in-FreeBefore.is (if_ok c.push_last_pattern.result c.push_last_pattern.ensures
    (λ h. adds (says (λ ps. token (Head (codes "free_before")) ∷ ps) c.in_ok-push_text-in-FreeBefore.ensures (λ _. refl)) h))

pub push_expression-returns-in_ok-push_text-in-FreeAfter : goal.push_expression-returns-in_ok-push_text-in-FreeAfter
unfolding chars
push_expression-returns-in_ok-push_text-in-FreeAfter t c =
    rw c.in-FreeAfter.is (if_ok c.push_last_pattern-in-FreeAfter.result c.push_last_pattern-in-FreeAfter.ensures
    (λ h. adds (says (λ ps. token (Head (codes "free_after")) ∷ ps) c.in_ok-push_text-in-FreeAfter.ensures (λ _. refl)) h))

pub push_argument-returns : goal.push_argument-returns
push_argument-returns t c = if_ok c.push_text.result c.push_text.ensures (λ h. adds_before (shown_as expression_pieces c.as_expr.ensures c.in_ok-push_expression.ensures) h)
