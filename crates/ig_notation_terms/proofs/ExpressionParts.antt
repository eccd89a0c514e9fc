-- The parts of the rules, put together of what is read one behind the other: expressions.
use Rattle.std.proofs.Common.{◌≡◌, ℕ, ◌+◌, ◌≤◌, ◌<◌, List, [], ◌∷◌, ◌++◌, refl, sym, ap, ◌∙◌, subst, arith}
use Rattle.std.specs.Prelude.{None, All, pos, ℤ}
use Rattle.ig_text.specs.Limits.{integers_end}
use Rattle.ig_expr.specs.Expression.{Expression, Integer, Variable, Binary, Of, Same, Spells}
use Rattle.ig_expr.specs.Expression as tree
use Rattle.ig_expr.specs.declared.operator.Op.{Op}
use Rattle.ig_expr.specs.declared.operator.Function.{Function}
use Rattle.ig_notation_syntax.specs.Token as token
use Rattle.ig_notation_syntax.specs.Token.{Token, Name, Head, Number, Literal, Comma, Close}
use Rattle.ig_notation_syntax.specs.Rules as rule
use Rattle.ig_notation_syntax.specs.Rules.{IsOperator, ReadsTerm, ReadsExpression, ReadsArguments}
use Rattle.ig_notation_syntax.specs.Machine as want
use Rattle.ig_notation_syntax.specs.Machine.{after, before, arguments_wants}
use Rattle.ig_notation_syntax.specs.Rows.{operator_row}
use Rattle.ig_notation_syntax.specs.Reading.{Goes}
use Rattle.ig_notation_terms.specs.Limits.{NumberFits}
use Rattle.ig_notation_terms.specs.declared.fault.RuleFault.{RuleFault}
use Rattle.ig_notation_terms.specs.declared.expressions.Named.{Named}
use Rattle.ig_notation_terms.specs.declared.expressions.Named.TheVariants as named
use Rattle.ig_notation_terms.specs.Readers.{Stands, Takes, Misses, at_end, at_token, StopsAt, Runs, Finds, Closed, Front, IsNamed, named_wants, ReadsNamed, After}
use Rattle.ig_notation_terms.proofs.Names.{named_rows}
use Rattle.ig_notation_terms.specs.Lists.{one_more, the_last}
use Rattle.ig_notation_terms.specs.Steps.{stop_past, stop_token, by_token, by_itself, in_turn, ReadsToken, the_sign, rows_alike, and_none, relay, reread, token_then, sign_then, then_sign, each_there}

-- an expression behind `not` or `-`
pub opposite : (T : List Token) (i j : ℕ) (a e : Expression) → Stands T i token.Not → Goes Expression ReadsTerm (want.term ∷ []) [] T (i + 1) j a → e ≡ a →
    Goes Expression ReadsExpression (want.expression ∷ []) [] T i j (tree.Not e)
opposite T i j a e h g f =
    by_token ReadsExpression ReadsTerm want.expression (want.term ∷ []) [] token.Not T i j (tree.Not e) a h refl
    (λ s r x. rule.opposite s r e (subst (ReadsTerm s r) (sym f) x)) g

pub negative : (T : List Token) (i j : ℕ) (a e : Expression) → Stands T i token.Minus → Goes Expression ReadsTerm (want.term ∷ []) [] T (i + 1) j a → e ≡ a →
    Goes Expression ReadsExpression (want.expression ∷ []) [] T i j (tree.Negative e)
negative T i j a e h g f =
    by_token ReadsExpression ReadsTerm want.expression (want.term ∷ []) [] token.Minus T i j (tree.Negative e) a h refl
    (λ s r x. rule.negative s r e (subst (ReadsTerm s r) (sym f) x)) g

-- one without
pub unsigned : (T : List Token) (i : ℕ) (t : Token) → Stands T i t → after want.expression t ≡ before (want.operator_rest ∷ []) (after want.term t) →
    Runs (want.expression ∷ []) (want.term ∷ want.operator_rest ∷ []) T i i
unsigned T i t h e = rows_alike want.expression want.term (want.operator_rest ∷ []) t T i refl refl e h

pub plain_expression : (T : List Token) (i j : ℕ) (e : Expression) → Runs (want.expression ∷ []) (want.term ∷ want.operator_rest ∷ []) T i i →
    Goes Expression ReadsExpression (want.term ∷ want.operator_rest ∷ []) [] T i j e → Goes Expression ReadsExpression (want.expression ∷ []) [] T i j e
plain_expression T i j e r g = relay ReadsExpression (want.expression ∷ []) (want.term ∷ want.operator_rest ∷ []) [] T i j e r g

pub alone : (T : List Token) (i j : ℕ) (e : Expression) → Goes Expression ReadsTerm (want.term ∷ []) [] T i j e → Misses want.operator_rest T j →
    Goes Expression ReadsExpression (want.term ∷ want.operator_rest ∷ []) [] T i j e
alone T i j e g m = and_none ReadsTerm ReadsExpression (want.term ∷ []) want.operator_rest T i j e e g refl m (λ s r h. rule.alone s r e h)

pub operation : (T : List Token) (i j k : ℕ) (a b x y : Expression) (o : Op) → Goes Expression ReadsTerm (want.term ∷ []) [] T i j a →
    Finds (λ t. IsOperator t o) T j → Goes Expression ReadsTerm (want.term ∷ []) [] T (j + 1) k b → x ≡ a → y ≡ b →
    Goes Expression ReadsExpression (want.term ∷ want.operator_rest ∷ []) [] T i k (Binary o x y)
operation T i j k a b x y o g f h d e =
    in_turn ReadsTerm (After f.found ReadsTerm) ReadsExpression (want.term ∷ []) (want.operator_rest ∷ []) [] T i j k a b (Binary o x y) g
    (by_token (After f.found ReadsTerm) ReadsTerm want.operator_rest (want.term ∷ []) [] f.found T j k b b f.stands (operator_row f.found o f.fits)
    (λ s r v. record { middle = s; is = refl; part = v }) h)
    (λ s m r u v. rule.binary f.found o s v.middle r x y f.fits (subst (λ z. ReadsTerm s z x) v.is (subst (ReadsTerm s m) (sym d) u))
    (subst (ReadsTerm v.middle r) (sym e) v.part))

pub second_stops : (T : List Token) (i j : ℕ) (a : Expression) (o : Op) (e : RuleFault) → Goes Expression ReadsTerm (want.term ∷ []) [] T i j a →
    Finds (λ t. IsOperator t o) T j → StopsAt (want.term ∷ []) T (j + 1) e → StopsAt (want.term ∷ want.operator_rest ∷ []) T i e
second_stops T i j a o e g f s =
    stop_past ReadsTerm (want.term ∷ []) (want.operator_rest ∷ []) T i j a e g
    (stop_token want.operator_rest (want.term ∷ []) f.found T j e f.stands (operator_row f.found o f.fits) s)

-- a function
pub applies : (T : List Token) (i j : ℕ) (n : Named) (f : Function) (a e : Expression) → n ≡ named.One f →
    Goes Expression (Closed ReadsExpression) (want.expression ∷ want.close_bracket ∷ []) [] T i j a → e ≡ a →
    Goes Expression (ReadsNamed n) (named_wants n) [] T i j (Of f e)
applies T i j n f a e h g d =
    subst (λ z. Goes Expression (ReadsNamed z) (named_wants z) [] T i j (Of f e)) (sym h)
    (reread (ReadsNamed (named.One f)) (Closed ReadsExpression) (want.expression ∷ want.close_bracket ∷ []) [] T i j (Of f e) a g
    (λ s r x. λ name is. rule.function name f s r e is (subst (ReadsExpression s (Close ∷ r)) (sym d) x)))

pub same : (T : List Token) (i j k l : ℕ) (a b x y : Expression) → Goes Expression ReadsExpression (want.expression ∷ []) [] T i j a → Takes Comma T j k →
    Goes Expression (Closed ReadsExpression) (want.expression ∷ want.close_bracket ∷ []) [] T k l b → x ≡ a → y ≡ b →
    Goes Expression (ReadsNamed named.Same) (named_wants named.Same) [] T i l (Same x y)
same T i j k l a b x y g h f d e =
    in_turn ReadsExpression (After Comma (Closed ReadsExpression)) (ReadsNamed named.Same) (want.expression ∷ [])
    (want.comma ∷ want.expression ∷ want.close_bracket ∷ []) [] T i j l a b (Same x y) g
    (sign_then (Closed ReadsExpression) want.comma Comma (want.expression ∷ want.close_bracket ∷ []) [] T j k l b refl h f)
    (λ s m r u v. λ name is. rule.same name s v.middle r x y is
    (subst (λ z. ReadsExpression s z x) v.is (subst (ReadsExpression s m) (sym d) u)) (subst (ReadsExpression v.middle (Close ∷ r)) (sym e) v.part))

pub spells : (T : List Token) (i j k l : ℕ) (a x : Expression) (word : List ℕ) → Goes Expression ReadsExpression (want.expression ∷ []) [] T i j a →
    Takes Comma T j k → Stands T k (Literal word) → Takes Close T (k + 1) l → x ≡ a →
    Goes Expression (ReadsNamed named.Spells) (named_wants named.Spells) [] T i l (Spells x word)
spells T i j k l a x word g h t c d =
    in_turn ReadsExpression (After Comma (After (Literal word) ReadsToken)) (ReadsNamed named.Spells) (want.expression ∷ [])
    (want.comma ∷ want.literal ∷ want.close_bracket ∷ []) [] T i j l a Close (Spells x word) g
    (sign_then (After (Literal word) ReadsToken) want.comma Comma (want.literal ∷ want.close_bracket ∷ []) [] T j k l Close refl h
    (token_then ReadsToken want.literal (Literal word) (want.close_bracket ∷ []) [] T k l Close refl t
    (the_sign want.close_bracket Close T (k + 1) l c refl)))
    (λ s m r u v. λ name is. rule.spells name s r x word is
    (subst (λ z. ReadsExpression s z x) (v.is ∙ ap (λ z. Comma ∷ z) (v.part.is ∙ ap (λ z. Literal word ∷ z) v.part.part)) (subst (ReadsExpression s m) (sym d) u)))

-- terms
pub numeral : (T : List Token) (i n : ℕ) (z : ℤ) → Stands T i (Number n) → z ≡ pos n → Goes Expression ReadsTerm (want.term ∷ []) [] T i (i + 1) (Integer z)
numeral T i n z h e =
    subst (λ y. Goes Expression ReadsTerm (want.term ∷ []) [] T i (i + 1) (Integer y)) (sym e)
    (by_itself ReadsTerm want.term [] (Number n) T i (Integer (pos n)) h refl (λ r. rule.number n r))

pub no_larger : (T : List Token) (i n : ℕ) → All NumberFits T → Stands T i (Number n) → integers_end ≤ n → ⊥
no_larger T i n a h l = let m : n < integers_end = each_there NumberFits T i (Number n) a h in omega arith

pub variable : (T : List Token) (i : ℕ) (x y : List ℕ) → Stands T i (Name x) → y ≡ x → Goes Expression ReadsTerm (want.term ∷ []) [] T i (i + 1) (Variable y)
variable T i x y h e =
    subst (λ z. Goes Expression ReadsTerm (want.term ∷ []) [] T i (i + 1) (Variable z)) (sym e)
    (by_itself ReadsTerm want.term [] (Name x) T i (Variable x) h refl (λ r. rule.variable x r))

pub in_brackets : (T : List Token) (i j : ℕ) (e : Expression) → Stands T i token.Open →
    Goes Expression (Closed ReadsExpression) (want.expression ∷ want.close_bracket ∷ []) [] T (i + 1) j e → Goes Expression ReadsTerm (want.term ∷ []) [] T i j e
in_brackets T i j e h g =
    by_token ReadsTerm (Closed ReadsExpression) want.term (want.expression ∷ want.close_bracket ∷ []) [] token.Open T i j e e h refl
    (λ s r x. rule.in_brackets s r e x) g

pub called : (T : List Token) (i j : ℕ) (x : List ℕ) (n : Named) (e : Expression) → Stands T i (Head x) → IsNamed x n →
    Goes Expression (ReadsNamed n) (named_wants n) [] T (i + 1) j e → Goes Expression ReadsTerm (want.term ∷ []) [] T i j e
called T i j x n e h is g =
    by_token ReadsTerm (ReadsNamed n) want.term (named_wants n) [] (Head x) T i j e e h (named_rows x n is) (λ s r f. f x is) g

pub called_stops : (T : List Token) (i : ℕ) (x : List ℕ) (n : Named) (e : RuleFault) → Stands T i (Head x) → IsNamed x n →
    StopsAt (named_wants n) T (i + 1) e → StopsAt (want.term ∷ []) T i e
called_stops T i x n e h is s = stop_token want.term (named_wants n) (Head x) T i e h (named_rows x n is) s

-- arguments
pub more_arguments : (T : List Token) (i j k : ℕ) (es fs : List Expression) (e : Expression) →
    Goes (List Expression) (Front ReadsArguments) arguments_wants arguments_wants T i j es →
    Goes Expression ReadsExpression (want.expression ∷ []) [] T j k e → Stands T k Comma → fs ≡ es ++ e ∷ [] →
    Goes (List Expression) (Front ReadsArguments) arguments_wants arguments_wants T i (k + 1) fs
more_arguments T i j k es fs e g h c d =
    one_more ReadsExpression ReadsArguments (want.expression ∷ []) want.arguments_rest Comma T i j k es fs e refl
    (λ s m r z zs x y. rule.further_argument s m r z zs x y) g h c d

-- where no comma stands, no further argument does
no_argument : (t : Token) → want.after_comma t ≡ None → want.after_arguments_rest t ≡ None
no_argument Comma e = cc
no_argument t e = refl

no_more_arguments : (T : List Token) (i : ℕ) → Misses want.comma T i → Misses want.arguments_rest T i
no_more_arguments T i (at_end e) = at_end e
no_more_arguments T i (at_token t h e) = at_token t h (no_argument t e)

pub closed_arguments : (T : List Token) (i j k l : ℕ) (es fs : List Expression) (e : Expression) →
    Goes (List Expression) (Front ReadsArguments) arguments_wants arguments_wants T i j es →
    Goes Expression ReadsExpression (want.expression ∷ []) [] T j k e → Misses want.comma T k → Takes Close T k l → fs ≡ es ++ e ∷ [] →
    Goes (List Expression) (Closed ReadsArguments) (arguments_wants ++ want.close_bracket ∷ []) [] T i l fs
closed_arguments T i j k l es fs e g h m c d =
    then_sign ReadsArguments want.close_bracket Close arguments_wants T i k l fs
    (the_last ReadsExpression ReadsArguments (want.expression ∷ []) want.arguments_rest T i j k es fs e refl
    (λ s r z x. rule.last_argument s r z x) g h (no_more_arguments T k m) d) c refl
