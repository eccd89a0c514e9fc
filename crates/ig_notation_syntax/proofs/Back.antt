-- What the table makes of a token is by the rules: the token and what a row permits are what the want permits.
use Rattle.std.proofs.Common.{◌≡◌, ℕ, List, [], ◌∷◌, refl, sym, subst, Bool, true, false, inl, inr}
use Rattle.std.specs.Prelude.{Option, Some, None, ◌||◌, ◌⊎◌, codes}
use Rattle.std.specs.Cmp.Lexicographic.{bytes_decides}
use Rattle.std.proofs.lemmas.Bool.{cond_both}
use Rattle.ig_text.specs.Words.{is_word}
use Rattle.ig_expr.specs.Expression.{Expression}
use Rattle.ig_expr.specs.declared.operator.Op.{Op}
use Rattle.ig_expr.specs.declared.operator.Op.TheVariants as op
use Rattle.ig_expr.specs.declared.operator.Function.{Function}
use Rattle.ig_expr.specs.declared.operator.Function.TheVariants as functions
use Rattle.ig_text.specs.declared.pattern.Pattern.{Pattern}
use Rattle.ig_notation_syntax.specs.Token.{Token, Name, Head, Number, Literal, OneOf, Equals, Bar, Greater, Colon, Comma, Open, Close, OpenBrace, Question, Star, Plus, Minus, Backslash, NotFollowedBy, NotPrecededBy, EqualTo, NotEqualTo, Less, AtMost, AtLeast}
use Rattle.ig_notation_syntax.specs.Token.{Offside, Ignore, Align, When, Let, Here, True, False, And, Or, Not, Div, Mod}
use Rattle.ig_grammar.specs.Symbol as tree
use Rattle.ig_grammar.specs.Symbol.{Symbol, Symbols, Alternatives}
use Rattle.ig_grammar.specs.declared.filter.Filter.{Filter}
use Rattle.ig_notation_syntax.specs.Rules as rule
use Rattle.ig_notation_syntax.specs.Rules.{IsFunction, IsOperator, IsPattern, IsSeparated, IsFilter, IsDeclKind, ReadsTerm, ReadsExpression, ReadsArguments, ReadsFilters, ReadsSign, filtered}
use Rattle.ig_notation_syntax.specs.Rules.{ReadsSymbol, ReadsMarked, ReadsPost, ReadsAtom, ReadsAlternatives, ReadsAlternative, ReadsLevels, ReadsParameters, ReadsDeclaration}
use Rattle.ig_notation_syntax.specs.Machine.{Want, alternative, symbol, marked, post, atom, expression, term}
use Rattle.ig_notation_syntax.specs.Machine.{alternatives_rest, arguments_rest, operator_rest, filters, sign, name_rest, pattern, list_sign}
use Rattle.ig_notation_syntax.specs.Machine.{name, literal, equals, comma, open_bracket, close_bracket, close_brace}
use Rattle.ig_notation_syntax.specs.Machine.{before, is_function_name, after_function, after_term, after_expression, after_atom, after_post, after_marked, after_symbol, after_alternative, after}
use Rattle.ig_notation_syntax.specs.Machine.{alternatives_wants, arguments_wants}
use Rattle.ig_notation_syntax.proofs.Spans.{Spans, Chain, done, link, Cut, chain_cut, OnRow, Permits}
use Rattle.ig_notation_syntax.proofs.Spans as span

pub before_permits : (P Q : List Token → List Token → Type 0) (rest : List Want) (o : Option (List Want)) → OnRow (Permits P) o →
    ((s m r : List Token) → P s m → Chain rest m r → Q s r) → OnRow (Permits Q) (before rest o)
before_permits P Q rest None h f = tt
before_permits P Q rest (Some row) h f = λ s r c. let d : Cut row rest s r = chain_cut row rest c in f s d.middle r (h s d.middle d.front) d.back

-- functions
either : (a b : Bool) → (a || b) ≡ true → (a ≡ true) ⊎ (b ≡ true)
either true b h = inl refl
either false b h = inr h

named : (x y : List ℕ) (f : Function) → IsFunction y f → is_word x y ≡ true → (g : Function) × IsFunction x g
named x y f is h = (f, subst (λ z. IsFunction z f) (sym ((bytes_decides x y).0 h)) is)

pub function_named : (x : List ℕ) → is_function_name x ≡ true → (f : Function) × IsFunction x f
function_named x h = elim (either _ _ h) [
  | inr e ↦ named x (codes "number") functions.Number rule.number_of e
  | inl h ↦ elim (either _ _ h) [
    | inr e ↦ named x (codes "line") functions.Line rule.line e
    | inl h ↦ elim (either _ _ h) [
      | inr e ↦ named x (codes "column") functions.Column rule.column e
      | inl h ↦ elim (either _ _ h) [
        | inr e ↦ named x (codes "size") functions.Size rule.size e
        | inl h ↦ elim (either _ _ h) [
          | inr e ↦ named x (codes "end") functions.End rule.end e
          | inl e ↦ named x (codes "begin") functions.Begin rule.begin e
        ]
      ]
    ]
  ]
]

of_function : (x : List ℕ) → (f : Function) × IsFunction x f →
    Permits (λ s r. Spans term (Head x ∷ s) r) (expression ∷ close_bracket ∷ [])
of_function x f i j (link (span.of_expression s m e d) (link (span.of_close q) (done r))) =
    span.of_term (Head x ∷ s) r _ (rule.function x f.0 s r e f.1 d)

of_same : (x : List ℕ) → x ≡ codes "same" →
    Permits (λ s r. Spans term (Head x ∷ s) r) (expression ∷ comma ∷ expression ∷ close_bracket ∷ [])
of_same x h i j (link (span.of_expression s m a d) (link (span.of_comma y) (link (span.of_expression q n b e) (link (span.of_close p) (done r))))) =
    span.of_term (Head x ∷ s) r _ (rule.same x s q r a b h d e)

of_spells : (x : List ℕ) → x ≡ codes "spells" →
    Permits (λ s r. Spans term (Head x ∷ s) r) (expression ∷ comma ∷ literal ∷ close_bracket ∷ [])
of_spells x h i j (link (span.of_expression s m a d) (link (span.of_comma q) (link (span.of_literal w n) (link (span.of_close p) (done r))))) =
    span.of_term (Head x ∷ s) r _ (rule.spells x s r a w h d)

function_back : (x : List ℕ) → OnRow (Permits (λ s r. Spans term (Head x ∷ s) r)) (after_function x)
function_back x =
    cond_both (is_function_name x) _ _ (OnRow (Permits (λ s r. Spans term (Head x ∷ s) r)))
    (λ h. of_function x (function_named x h))
    (λ _. cond_both (is_word x (codes "same")) _ _ (OnRow (Permits (λ s r. Spans term (Head x ∷ s) r)))
    (λ h. of_same x ((bytes_decides x (codes "same")).0 h))
    (λ _. cond_both (is_word x (codes "spells")) _ _ (OnRow (Permits (λ s r. Spans term (Head x ∷ s) r)))
    (λ h. of_spells x ((bytes_decides x (codes "spells")).0 h))
    (λ _. tt)))

-- terms and expressions
term_alone : (t : Token) (e : Expression) → ((r : List Token) → ReadsTerm (t ∷ r) r e) → Permits (λ s r. Spans term (t ∷ s) r) []
term_alone t e f s r (done q) = span.of_term (t ∷ q) q e (f q)

in_brackets : Permits (λ s r. Spans term (Open ∷ s) r) (expression ∷ close_bracket ∷ [])
in_brackets i j (link (span.of_expression s m e d) (link (span.of_close q) (done r))) = span.of_term (Open ∷ s) r e (rule.in_brackets s r e d)

pub term_back : (t : Token) → OnRow (Permits (λ s r. Spans term (t ∷ s) r)) (after_term t)
term_back (Number n) = term_alone (Number n) _ (rule.number n)
term_back True = term_alone True _ rule.truth
term_back False = term_alone False _ rule.falsehood
term_back Here = term_alone Here _ rule.here
term_back (Name x) = term_alone (Name x) _ (rule.variable x)
term_back Open = in_brackets
term_back (Head x) = function_back x
term_back _ = tt

opposite : Permits (λ s r. Spans expression (Not ∷ s) r) (term ∷ [])
opposite i j (link (span.of_term s m e d) (done q)) = span.of_expression (Not ∷ s) q _ (rule.opposite s q e d)

negative : Permits (λ s r. Spans expression (Minus ∷ s) r) (term ∷ [])
negative i j (link (span.of_term s m e d) (done q)) = span.of_expression (Minus ∷ s) q _ (rule.negative s q e d)

operation : (s m r : List Token) → Spans term s m → Chain (operator_rest ∷ []) m r → Spans expression s r
operation i n j (span.of_term s m e d) (link (span.no_operator q) (done r)) = span.of_expression s r e (rule.alone s r e d)
operation i n j (span.of_term s m a d) (link (span.of_operator t o q p b is e) (done r)) =
    span.of_expression s r _ (rule.binary t o s q r a b is d e)

pub expression_back : (t : Token) → OnRow (Permits (λ s r. Spans expression (t ∷ s) r)) (after_expression t)
expression_back Not = opposite
expression_back Minus = negative
expression_back t = before_permits (λ s r. Spans term (t ∷ s) r) (λ s r. Spans expression (t ∷ s) r) (operator_rest ∷ []) (after_term t) (term_back t)
    (λ s m r. operation (t ∷ s) m r)

operand : (t : Token) (o : Op) → IsOperator t o → Permits (λ s r. Spans operator_rest (t ∷ s) r) (term ∷ [])
operand t o is i j (link (span.of_term s m e d) (done q)) = span.of_operator t o s q e is d

pub operator_back : (t : Token) → OnRow (Permits (λ s r. Spans operator_rest (t ∷ s) r)) (after operator_rest t)
operator_back Plus = operand Plus op.Add rule.addition
operator_back Minus = operand Minus op.Sub rule.subtraction
operator_back Star = operand Star op.Mul rule.multiplication
operator_back Div = operand Div op.Div rule.division
operator_back Mod = operand Mod op.Mod rule.remainder
operator_back Less = operand Less op.Less rule.less
operator_back AtMost = operand AtMost op.LessEqual rule.less_equal
operator_back Greater = operand Greater op.Greater rule.greater
operator_back AtLeast = operand AtLeast op.GreaterEqual rule.greater_equal
operator_back EqualTo = operand EqualTo op.Equal rule.equal
operator_back NotEqualTo = operand NotEqualTo op.NotEqual rule.not_equal
operator_back And = operand And op.And rule.conjunction
operator_back Or = operand Or op.Or rule.disjunction
operator_back _ = tt

-- arguments
expressions : (s m r : List Token) (e : Expression) → ReadsExpression s m e → Spans arguments_rest m r →
    (es : List Expression) × ReadsArguments s r es
expressions s m r e d (span.no_argument q) = (e ∷ [], rule.last_argument s q e d)
expressions s m r e d (span.of_arguments q p es f) = (e ∷ es, rule.further_argument s q p e es d f)

pub arguments_of : {s r : List Token} → Chain arguments_wants s r → (es : List Expression) × ReadsArguments s r es
arguments_of (link (span.of_expression s m e d) (link rest (done r))) = expressions s m r e d rest

pub arguments_back : (t : Token) → OnRow (Permits (λ s r. Spans arguments_rest (t ∷ s) r)) (after arguments_rest t)
arguments_back Comma = λ s r c. span.of_arguments s r (arguments_of c).0 (arguments_of c).1
arguments_back _ = tt

-- signs, filters and patterns
sign_alone : (t : Token) → ((r : List Token) (x : Symbol) → (y : Symbol) × ReadsSign (t ∷ r) r x y) → Permits (λ s r. Spans sign (t ∷ s) r) []
sign_alone t f i j (done r) = span.of_sign (t ∷ r) r (f r)

pub sign_back : (t : Token) → OnRow (Permits (λ s r. Spans sign (t ∷ s) r)) (after sign t)
sign_back Question = sign_alone Question (λ r x. (tree.Opt x, rule.option r x))
sign_back Star = sign_alone Star (λ r x. (tree.Star x, rule.star r x))
sign_back Plus = sign_alone Plus (λ r x. (tree.Plus x, rule.plus r x))
sign_back _ = tt

list_sign_alone : (t : Token) → ((x y : Symbol) → (z : Symbol) × IsSeparated t x y z) → Permits (λ s r. Spans list_sign (t ∷ s) r) []
list_sign_alone t f i j (done r) = span.of_list_sign t r f

pub list_sign_back : (t : Token) → OnRow (Permits (λ s r. Spans list_sign (t ∷ s) r)) (after list_sign t)
list_sign_back Star = list_sign_alone Star (λ x y. (tree.SepStar x y, rule.separated_star x y))
list_sign_back Plus = list_sign_alone Plus (λ x y. (tree.SepPlus x y, rule.separated_plus x y))
list_sign_back _ = tt

pattern_alone : (t : Token) (p : Pattern) → IsPattern t p → Permits (λ s r. Spans pattern (t ∷ s) r) []
pattern_alone t p is i j (done r) = span.of_pattern t p r is

pub pattern_back : (t : Token) → OnRow (Permits (λ s r. Spans pattern (t ∷ s) r)) (after pattern t)
pattern_back (Literal word) = pattern_alone (Literal word) _ (rule.literal_pattern word)
pattern_back (OneOf class) = pattern_alone (OneOf class) _ (rule.class_pattern class)
pattern_back _ = tt

filter : (t : Token) → ((p : Pattern) → (f : Filter) × IsFilter t p f) → Permits (λ s r. Spans filters (t ∷ s) r) (pattern ∷ filters ∷ [])
filter t is i j (link (span.of_pattern x p q h) (link (span.of_filters s r fs d) (done n))) =
    span.of_filters (t ∷ x ∷ s) r ((is p).0 ∷ fs) (rule.next_filter t x p (is p).0 s r fs (is p).1 h d)

pub filters_back : (t : Token) → OnRow (Permits (λ s r. Spans filters (t ∷ s) r)) (after filters t)
filters_back NotFollowedBy = filter NotFollowedBy (λ p. (_, rule.not_followed p))
filters_back NotPrecededBy = filter NotPrecededBy (λ p. (_, rule.not_preceded p))
filters_back Backslash = filter Backslash (λ p. (_, rule.excluded p))
filters_back _ = tt

-- alternatives
choices : (s m r : List Token) (xs : Symbols) → ReadsAlternative s m xs → Spans alternatives_rest m r →
    (ys : Alternatives) × ReadsAlternatives s r ys
choices s m r xs d (span.no_alternative q) = (_, rule.last_alternative s q xs d)
choices s m r xs d (span.of_alternatives q p ys f) = (_, rule.further_alternative s q p xs ys d f)

pub alternatives_of : {s r : List Token} → Chain alternatives_wants s r → (ys : Alternatives) × ReadsAlternatives s r ys
alternatives_of (link (span.of_alternative s m xs d) (link rest (done r))) = choices s m r xs d rest

pub alternatives_back : (t : Token) → OnRow (Permits (λ s r. Spans alternatives_rest (t ∷ s) r)) (after alternatives_rest t)
alternatives_back Bar = λ s r c. span.of_alternatives s r (alternatives_of c).0 (alternatives_of c).1
alternatives_back _ = tt

-- atoms
atom_alone : (t : Token) (x : Symbol) → ((r : List Token) → ReadsAtom (t ∷ r) r x) → Permits (λ s r. Spans atom (t ∷ s) r) []
atom_alone t x f i j (done q) = span.of_atom (t ∷ q) q x (f q)

call : (x : List ℕ) → Permits (λ s r. Spans atom (Head x ∷ s) r) (expression ∷ arguments_rest ∷ close_bracket ∷ [])
call x i j (link (span.of_expression s m e d) (link rest (link (span.of_close q) (done r)))) =
    let es : (es : List Expression) × ReadsArguments s (Close ∷ r) es = expressions s m (Close ∷ r) e d rest in
    span.of_atom (Head x ∷ s) r _ (rule.call x s r es.0 es.1)

group : Permits (λ s r. Spans atom (Open ∷ s) r) (alternative ∷ alternatives_rest ∷ close_bracket ∷ [])
group i j (link (span.of_alternative s m xs d) (link rest (link (span.of_close q) (done r)))) =
    let ys : (ys : Alternatives) × ReadsAlternatives s (Close ∷ r) ys = choices s m (Close ∷ r) xs d rest in
    span.of_atom (Open ∷ s) r _ (rule.group s r ys.0 ys.1)

pub atom_back : (t : Token) → OnRow (Permits (λ s r. Spans atom (t ∷ s) r)) (after_atom t)
atom_back (Literal word) = atom_alone (Literal word) _ (rule.literal word)
atom_back (OneOf class) = atom_alone (OneOf class) _ (rule.class class)
atom_back (Name x) = atom_alone (Name x) _ (rule.bare_call x)
atom_back (Head x) = call x
atom_back Open = group
atom_back _ = tt

-- posts, marked symbols and symbols
signed : (i n j : List Token) → Spans atom i n → Chain (sign ∷ filters ∷ []) n j → Spans post i j
signed i n j (span.of_atom s m x d) (link (span.of_sign p q f) (link (span.of_filters o r fs e) (done l))) =
    span.of_post s r (filtered (f x).0 fs) (rule.atom s m q r x (f x).0 (filtered (f x).0 fs) fs d (f x).1 e refl)

separated : Permits (λ s r. Spans post (OpenBrace ∷ s) r) (marked ∷ marked ∷ close_brace ∷ list_sign ∷ filters ∷ [])
separated i j (link (span.of_marked s m x d) (link (span.of_marked n o y e) (link (span.of_close_brace p) (link (span.of_list_sign t q f) (link (span.of_filters l r fs g) (done k)))))) =
    span.of_post (OpenBrace ∷ s) r (filtered (f x y).0 fs) (rule.separated t s m q r x y (f x y).0 (filtered (f x y).0 fs) fs d e (f x y).1 g refl)

pub post_back : (t : Token) → OnRow (Permits (λ s r. Spans post (t ∷ s) r)) (after_post t)
post_back OpenBrace = separated
post_back t = before_permits (λ s r. Spans atom (t ∷ s) r) (λ s r. Spans post (t ∷ s) r) (sign ∷ filters ∷ []) (after_atom t) (atom_back t)
    (λ s m r. signed (t ∷ s) m r)

-- each row whose wants P permits, Q permits
pub weaker : (P Q : List Token → List Token → Type 0) (o : Option (List Want)) → ((s r : List Token) → P s r → Q s r) →
    OnRow (Permits P) o → OnRow (Permits Q) o
weaker P Q None f h = tt
weaker P Q (Some row) f h = λ s r c. f s r (h s r c)

mark : (t : Token) (m : Symbol → Symbol) → ((s r : List Token) (x : Symbol) → ReadsPost s r x → ReadsMarked (t ∷ s) r (m x)) →
    Permits (λ s r. Spans marked (t ∷ s) r) (post ∷ [])
mark t m f i j (link (span.of_post s r x d) (done q)) = span.of_marked (t ∷ s) r (m x) (f s r x d)

unmarked : (s r : List Token) → Spans post s r → Spans marked s r
unmarked i j (span.of_post s r x d) = span.of_marked s r x (rule.unmarked s r x d)

pub marked_back : (t : Token) → OnRow (Permits (λ s r. Spans marked (t ∷ s) r)) (after_marked t)
marked_back Offside = mark Offside tree.Offside rule.offside
marked_back Ignore = mark Ignore tree.Ignore rule.ignore
marked_back Align = mark Align tree.Align rule.align
marked_back t = weaker (λ s r. Spans post (t ∷ s) r) (λ s r. Spans marked (t ∷ s) r) (after_post t) (λ s r. unmarked (t ∷ s) r) (post_back t)

guard : Permits (λ s r. Spans symbol (When ∷ s) r) (open_bracket ∷ expression ∷ close_bracket ∷ [])
guard i j (link (span.of_open p) (link (span.of_expression s m e d) (link (span.of_close q) (done r)))) =
    span.of_symbol (When ∷ Open ∷ s) r _ (rule.guard s r e d)

let_be : Permits (λ s r. Spans symbol (Let ∷ s) r) (name ∷ equals ∷ open_bracket ∷ expression ∷ close_bracket ∷ [])
let_be i j (link (span.of_name x n) (link (span.of_equals o) (link (span.of_open p) (link (span.of_expression s m e d) (link (span.of_close q) (done r)))))) =
    span.of_symbol (Let ∷ Name x ∷ Equals ∷ Open ∷ s) r _ (rule.let_be x s r e d)

unlabelled : (s r : List Token) → Spans marked s r → Spans symbol s r
unlabelled i j (span.of_marked s r x d) = span.of_symbol s r x (rule.unlabelled s r x d)

named_symbol : (x : List ℕ) (s r : List Token) → Spans name_rest s r → Spans symbol (Name x ∷ s) r
named_symbol x i j (span.of_label s r y d) = span.of_symbol (Name x ∷ Colon ∷ s) r _ (rule.labelled x s r y d)
named_symbol x i j (span.of_call s m r a b) =
    unlabelled (Name x ∷ s) r (unmarked (Name x ∷ s) r (signed (Name x ∷ s) s r (span.of_atom (Name x ∷ s) s _ (rule.bare_call x s)) (link a (link b (done r)))))

begun_by_name : (x : List ℕ) → Permits (λ s r. Spans symbol (Name x ∷ s) r) (name_rest ∷ [])
begun_by_name x i j (link {s = s} {m = m} a (done q)) = named_symbol x i j a

pub symbol_back : (t : Token) → OnRow (Permits (λ s r. Spans symbol (t ∷ s) r)) (after_symbol t)
symbol_back When = guard
symbol_back Let = let_be
symbol_back (Name x) = begun_by_name x
symbol_back t = weaker (λ s r. Spans marked (t ∷ s) r) (λ s r. Spans symbol (t ∷ s) r) (after_marked t) (λ s r. unlabelled (t ∷ s) r) (marked_back t)

labelled : Permits (λ s r. Spans name_rest (Colon ∷ s) r) (marked ∷ [])
labelled i j (link (span.of_marked s r x d) (done q)) = span.of_label s r x d

sign_and_filters : (t : Token) → ((r : List Token) → Spans sign (t ∷ r) r) → Permits (λ s r. Spans name_rest (t ∷ s) r) (filters ∷ [])
sign_and_filters t f i j (link {s = s} {m = m} a (done q)) = span.of_call (t ∷ i) i j (f i) a

filters_alone : (s r : List Token) → Spans filters s r → Spans name_rest s r
filters_alone s r a = span.of_call s s r (span.of_sign s s (λ x. (x, rule.once s x))) a

pub name_back : (t : Token) → OnRow (Permits (λ s r. Spans name_rest (t ∷ s) r)) (after name_rest t)
name_back Colon = labelled
name_back Question = sign_and_filters Question (λ r. sign_back Question r r (done r))
name_back Star = sign_and_filters Star (λ r. sign_back Star r r (done r))
name_back Plus = sign_and_filters Plus (λ r. sign_back Plus r r (done r))
name_back t = weaker (λ s r. Spans filters (t ∷ s) r) (λ s r. Spans name_rest (t ∷ s) r) (after filters t) (λ s r. filters_alone (t ∷ s) r) (filters_back t)

symbols : (i n j : List Token) → Spans symbol i n → Chain (alternative ∷ []) n j → Spans alternative i j
symbols i n j (span.of_symbol s m x d) (link (span.of_alternative p r xs e) (done q)) =
    span.of_alternative s r _ (rule.further_symbol s m r x xs d e)

pub alternative_back : (t : Token) → OnRow (Permits (λ s r. Spans alternative (t ∷ s) r)) (after_alternative t)
alternative_back t = before_permits (λ s r. Spans symbol (t ∷ s) r) (λ s r. Spans alternative (t ∷ s) r) (alternative ∷ []) (after_symbol t) (symbol_back t)
    (λ s m r. symbols (t ∷ s) m r)
