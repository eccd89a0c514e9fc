-- Tokens read as one term, expression or list of arguments at most.
use Rattle.std.proofs.Common.{◌≡◌, ℕ, List, [], ◌∷◌, refl, sym, ap, subst, true, false}
use Rattle.std.specs.Prelude.{Option, Some, None, codes, if◌then◌else◌}
use Rattle.ig_text.specs.Words.{is_word}
use Rattle.ig_expr.specs.Expression.{Expression, Binary, Of, Same as SameAs, Spells}
use Rattle.ig_expr.specs.Expression as tree
use Rattle.ig_expr.specs.declared.operator.Op.{Op}
use Rattle.ig_expr.specs.declared.operator.Function.{Function}
use Rattle.ig_expr.specs.declared.operator.Function.TheVariants as functions
use Rattle.ig_notation_syntax.specs.Token.{Token, Literal, Comma, Close}
use Rattle.ig_notation_syntax.specs.Rules as rule
use Rattle.ig_notation_syntax.specs.Rules.{IsFunction, IsOperator, ReadsTerm, ReadsExpression, ReadsArguments}
use Rattle.ig_notation_syntax.specs.Machine.{expression, operator_rest, arguments_rest}
use Rattle.ig_notation_syntax.specs.Rows.{operator_row}
use Rattle.ig_notation_syntax.proofs.Clear.{expression-in-arguments}
use Rattle.ig_notation_syntax.proofs.Free.{Free, Same, free_within, not_free}

-- names of functions
abbrev function_of : List ℕ → Option Function
function_of x =
    if is_word x (codes "begin") then Some functions.Begin else
    if is_word x (codes "end") then Some functions.End else
    if is_word x (codes "size") then Some functions.Size else
    if is_word x (codes "column") then Some functions.Column else
    if is_word x (codes "line") then Some functions.Line else
    if is_word x (codes "number") then Some functions.Number else None

function_told : {x : List ℕ} {f : Function} → IsFunction x f → function_of x ≡ Some f
function_told rule.begin = refl
function_told rule.end = refl
function_told rule.size = refl
function_told rule.column = refl
function_told rule.line = refl
function_told rule.number_of = refl

function_one : {x : List ℕ} {f g : Function} → IsFunction x f → IsFunction x g → f ≡ g
function_one {x} {f} {g} a b =
    let p : function_of x ≡ Some f = function_told a in let q : function_of x ≡ Some g = function_told b in cc

not_same : {x : List ℕ} {f : Function} → IsFunction x f → x ≡ codes "same" → ⊥
not_same {x} {f} a e =
    let p : function_of x ≡ Some f = function_told a in let q : function_of x ≡ None = ap function_of e in cc

not_spells : {x : List ℕ} {f : Function} → IsFunction x f → x ≡ codes "spells" → ⊥
not_spells {x} {f} a e =
    let p : function_of x ≡ Some f = function_told a in let q : function_of x ≡ None = ap function_of e in cc

not_both : {x : List ℕ} → x ≡ codes "same" → x ≡ codes "spells" → ⊥
not_both {x} a b =
    let p : is_word x (codes "same") ≡ true = ap (λ z. is_word z (codes "same")) a in
    let q : is_word x (codes "same") ≡ false = ap (λ z. is_word z (codes "same")) b in
    cc

operator_one : {t : Token} {o p : Op} → IsOperator t o → IsOperator t p → o ≡ p
operator_one rule.addition rule.addition = refl
operator_one rule.subtraction rule.subtraction = refl
operator_one rule.multiplication rule.multiplication = refl
operator_one rule.division rule.division = refl
operator_one rule.remainder rule.remainder = refl
operator_one rule.less rule.less = refl
operator_one rule.less_equal rule.less_equal = refl
operator_one rule.greater rule.greater = refl
operator_one rule.greater_equal rule.greater_equal = refl
operator_one rule.equal rule.equal = refl
operator_one rule.not_equal rule.not_equal = refl
operator_one rule.conjunction rule.conjunction = refl
operator_one rule.disjunction rule.disjunction = refl

-- an operator isn't free behind an expression
not_operator : (t : Token) (o : Op) (r m : List Token) → IsOperator t o → r ≡ t ∷ m → Free expression r → ⊥
not_operator t o r m is e f = not_free operator_rest refl t _ m r (operator_row t o is) e f

same_operation : {t u : Token} {o p : Op} {m n : List Token} {a b : Expression} → IsOperator t o → IsOperator u p →
    Same Expression (t ∷ m) (u ∷ n) a b → (o ≡ p) × (m ≡ n) × (a ≡ b)
same_operation {t} {u} {o} {p} {m} {n} a b s =
    let q : t ∷ m ≡ u ∷ n = s.0 in
    let h : t ≡ u = cc in
    (operator_one (subst (λ z. IsOperator z o) h a) b, cc, s.1)

pub behind : {t : Token} {r q : List Token} → t ∷ r ≡ t ∷ q → r ≡ q
behind e = cc

mutual
  pub term_one : {s r : List Token} {e : Expression} → ReadsTerm s r e → (q : List Token) (f : Expression) → ReadsTerm s q f →
      Same Expression r q e f
  term_one (rule.number n r) q f (rule.number m p) = (refl, refl)
  term_one (rule.truth r) q f (rule.truth p) = (refl, refl)
  term_one (rule.falsehood r) q f (rule.falsehood p) = (refl, refl)
  term_one (rule.here r) q f (rule.here p) = (refl, refl)
  term_one (rule.variable x r) q f (rule.variable y p) = (refl, refl)
  term_one (rule.in_brackets s r e d) q f (rule.in_brackets t p g c) =
      let h : Same Expression (Close ∷ r) (Close ∷ p) e g = expression_one d refl (Close ∷ p) g c refl in (behind h.0, h.1)
  term_one (rule.function x o s r e is d) q f (rule.function y u t p g ist c) =
      let h : Same Expression (Close ∷ r) (Close ∷ p) e g = expression_one d refl (Close ∷ p) g c refl in
      (behind h.0, λ i. Of (function_one is ist i) (h.1 i))
  term_one (rule.function x o s r e is d) q f (rule.same y t m p a b w c k) = absurd (not_same is w)
  term_one (rule.function x o s r e is d) q f (rule.spells y t p a word w c) = absurd (not_spells is w)
  term_one (rule.same x s m r a b v d g) q f (rule.same y t n p a2 b2 w c k) =
      let h : Same Expression (Comma ∷ m) (Comma ∷ n) a a2 = expression_one d refl (Comma ∷ n) a2 c refl in
      let l : Same Expression (Close ∷ r) (Close ∷ p) b b2 =
      expression_one g refl (Close ∷ p) b2 (subst (λ z. ReadsExpression z (Close ∷ p) b2) (sym (behind h.0)) k) refl in
      (behind l.0, λ i. SameAs (h.1 i) (l.1 i))
  term_one (rule.same x s m r a b v d g) q f (rule.function y u t p e ist c) = absurd (not_same ist v)
  term_one (rule.same x s m r a b v d g) q f (rule.spells y t p a2 word w c) = absurd (not_both v w)
  term_one (rule.spells x s r a word v d) q f (rule.spells y t p a2 other w c) =
      let h : Same Expression (Comma ∷ Literal word ∷ Close ∷ r) (Comma ∷ Literal other ∷ Close ∷ p) a a2 =
      expression_one d refl (Comma ∷ Literal other ∷ Close ∷ p) a2 c refl in
      let e : Comma ∷ Literal word ∷ Close ∷ r ≡ Comma ∷ Literal other ∷ Close ∷ p = h.0 in
      let w : word ≡ other = cc in
      (cc, λ i. Spells (h.1 i) (w i))
  term_one (rule.spells x s r a word v d) q f (rule.function y u t p e ist c) = absurd (not_spells ist v)
  term_one (rule.spells x s r a word v d) q f (rule.same y t m p a2 b w c k) = absurd (not_both w v)

  pub expression_one : {s r : List Token} {e : Expression} → ReadsExpression s r e → Free expression r → (q : List Token) (f : Expression) →
      ReadsExpression s q f → Free expression q → Same Expression r q e f
  expression_one (rule.alone s r e d) a q f (rule.alone t p g c) b = term_one d p g c
  expression_one (rule.alone s r e d) a q f (rule.binary t o i m p g h is c k) b =
      absurd (not_operator t o r m is (term_one d (t ∷ m) g c).0 a)
  expression_one (rule.alone s r e d) a q f (rule.opposite t p g c) b = elim d [ ]
  expression_one (rule.alone s r e d) a q f (rule.negative t p g c) b = elim d [ ]
  expression_one (rule.binary t o s m r x y is d e) a q f (rule.alone i p g c) b =
      absurd (not_operator t o p m is (sym (term_one d p g c).0) b)
  expression_one (rule.binary t o s m r x y is d e) a q f (rule.binary u v i n p g h ist c k) b =
      let l : (o ≡ v) × (m ≡ n) × (x ≡ g) = same_operation is ist (term_one d (u ∷ n) g c) in
      let j : Same Expression r p y h = term_one e p h (subst (λ z. ReadsTerm z p h) (sym l.1) k) in
      (j.0, λ i. Binary (l.0 i) (l.2 i) (j.1 i))
  expression_one (rule.binary t o s m r x y is d e) a q f (rule.opposite i p g c) b = elim d [ ]
  expression_one (rule.binary t o s m r x y is d e) a q f (rule.negative i p g c) b = elim d [ ]
  expression_one (rule.opposite s r e d) a q f (rule.alone t p g c) b = elim c [ ]
  expression_one (rule.opposite s r e d) a q f (rule.binary t o i m p g h is c k) b = elim c [ ]
  expression_one (rule.opposite s r e d) a q f (rule.opposite t p g c) b =
      let h : Same Expression r p e g = term_one d p g c in (h.0, ap tree.Not h.1)
  expression_one (rule.negative s r e d) a q f (rule.alone t p g c) b = elim c [ ]
  expression_one (rule.negative s r e d) a q f (rule.binary t o i m p g h is c k) b = elim c [ ]
  expression_one (rule.negative s r e d) a q f (rule.negative t p g c) b =
      let h : Same Expression r p e g = term_one d p g c in (h.0, ap tree.Negative h.1)

pub arguments_one : {s r : List Token} {es : List Expression} → ReadsArguments s r es → Free arguments_rest r → (q : List Token) (fs : List Expression) →
    ReadsArguments s q fs → Free arguments_rest q → Same (List Expression) r q es fs
arguments_one (rule.last_argument s r e d) a q fs (rule.last_argument t p g c) b =
    let h : Same Expression r p e g =
    expression_one d (free_within expression arguments_rest expression-in-arguments r a) p g c
    (free_within expression arguments_rest expression-in-arguments p b) in
    (h.0, ap (λ z. z ∷ []) h.1)
arguments_one (rule.last_argument s r e d) a q fs (rule.further_argument t m p g gs c k) b =
    absurd (not_free arguments_rest refl Comma _ m r refl
    (expression_one d (free_within expression arguments_rest expression-in-arguments r a) (Comma ∷ m) g c refl).0 a)
arguments_one (rule.further_argument s m r e es d k) a q fs (rule.last_argument t p g c) b =
    absurd (not_free arguments_rest refl Comma _ m p refl
    (sym (expression_one d refl p g c (free_within expression arguments_rest expression-in-arguments p b)).0) b)
arguments_one (rule.further_argument s m r e es d k) a q fs (rule.further_argument t n p g gs c l) b =
    let h : Same Expression (Comma ∷ m) (Comma ∷ n) e g = expression_one d refl (Comma ∷ n) g c refl in
    let j : Same (List Expression) r p es gs =
    arguments_one k a p gs (subst (λ z. ReadsArguments z p gs) (sym (behind h.0)) l) b in
    (j.0, λ i. h.1 i ∷ j.1 i)
