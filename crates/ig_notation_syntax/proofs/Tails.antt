-- What is left behind a part is the end of what it is read from.
use Rattle.std.proofs.Common.{◌≤◌, List, [], ◌∷◌, length, arith}
use Rattle.std.specs.Prelude.{All}
use Rattle.std.proofs.lemmas.List.Elements.{All-head, All-tail, All-nil, All-cons}
use Rattle.ig_expr.specs.Expression.{Expression}
use Rattle.ig_notation_syntax.specs.Token.{Token, Comma}
use Rattle.ig_grammar.specs.Symbol.{Symbol, Symbols, Alternatives}
use Rattle.ig_grammar.specs.declared.filter.Filter.{Filter}
use Rattle.ig_grammar.specs.declared.declaration.Param.{Param}
use Rattle.ig_grammar.specs.declared.declaration.Assoc.{Assoc}
use Rattle.ig_grammar.specs.declared.declaration.Level.{Level}
use Rattle.ig_grammar.specs.declared.declaration.Decl.{Decl}
use Rattle.ig_notation_syntax.specs.Rules as rule
use Rattle.ig_notation_syntax.specs.Rules.{ReadsTerm, ReadsExpression, ReadsArguments, ReadsFilters, ReadsSign}
use Rattle.ig_notation_syntax.specs.Rules.{ReadsSymbol, ReadsMarked, ReadsPost, ReadsAtom, ReadsAlternatives, ReadsAlternative}
use Rattle.ig_notation_syntax.specs.Rules.{ReadsAssociativity, ReadsLevel, ReadsLevels, ReadsParameters, ReadsDeclaration}
use Rattle.ig_notation_syntax.specs.Written.{ExpressionIsWritten}

-- the second list ends by the first
pub data EndsBy (r : List Token) : List Token → Type 0 where
  here : EndsBy r r
  past : (t : Token) (s : List Token) → EndsBy r s → EndsBy r (t ∷ s)

pub ends_by : {r m s : List Token} → EndsBy r m → EndsBy m s → EndsBy r s
ends_by a here = a
ends_by a (past t s b) = past t s (ends_by a b)

pub shorter : {r s : List Token} → EndsBy r s → length r ≤ length s
shorter {r} here = omega arith
shorter {r} (past t s b) = let h : length r ≤ length s = shorter b in omega (arith, h)

pub all_tail : (P : Token → Type 0) {r s : List Token} → EndsBy r s → All P s → All P r
all_tail P here h = h
all_tail P (past t s b) h = all_tail P b (All-tail P t s h)

-- a fact of each of some tokens
pub record Facts (P : Token → Type 0) (s : List Token) : Type 0 where
  pub all : All P s

pub tail : {P : Token → Type 0} {t : Token} {s : List Token} → Facts P (t ∷ s) → Facts P s
tail {P} {t} {s} h = record { all = All-tail P t s h.all }

pub head : {P : Token → Type 0} {t : Token} {s : List Token} → Facts P (t ∷ s) → P t
head {P} {t} {s} h = All-head P t s h.all

pub behind : {P : Token → Type 0} {r s : List Token} → EndsBy r s → Facts P s → Facts P r
behind {P} e h = record { all = all_tail P e h.all }

one : (t : Token) (r : List Token) → EndsBy r (t ∷ r)
one t r = past t r here

mutual
  pub term_tail : {s r : List Token} {e : Expression} → ReadsTerm s r e → EndsBy r s
  term_tail (rule.number n r) = one _ r
  term_tail (rule.truth r) = one _ r
  term_tail (rule.falsehood r) = one _ r
  term_tail (rule.here r) = one _ r
  term_tail (rule.variable x r) = one _ r
  term_tail (rule.in_brackets s r e d) = past _ s (ends_by (one _ r) (expression_tail d))
  term_tail (rule.function x f s r e is d) = past _ s (ends_by (one _ r) (expression_tail d))
  term_tail (rule.same x s m r a b h d e) =
      past _ s (ends_by (ends_by (ends_by (one _ r) (expression_tail e)) (one _ m)) (expression_tail d))
  term_tail (rule.spells x s r a word h d) =
      past _ s (ends_by (past _ _ (past _ _ (one _ r))) (expression_tail d))

  pub expression_tail : {s r : List Token} {e : Expression} → ReadsExpression s r e → EndsBy r s
  expression_tail (rule.alone s r e d) = term_tail d
  expression_tail (rule.binary t o s m r a b is d e) = ends_by (ends_by (term_tail e) (one t m)) (term_tail d)
  expression_tail (rule.opposite s r a d) = past _ s (term_tail d)
  expression_tail (rule.negative s r a d) = past _ s (term_tail d)

pub arguments_tail : {s r : List Token} {es : List Expression} → ReadsArguments s r es → EndsBy r s
arguments_tail (rule.last_argument s r e d) = expression_tail d
arguments_tail (rule.further_argument s m r e es d f) = ends_by (ends_by (arguments_tail f) (one Comma m)) (expression_tail d)

pub filters_tail : {s r : List Token} {fs : List Filter} → ReadsFilters s r fs → EndsBy r s
filters_tail (rule.no_filter r) = here
filters_tail (rule.next_filter t u p f s r fs is ist d) = past _ _ (past _ s (filters_tail d))

pub sign_tail : {s r : List Token} {x y : Symbol} → ReadsSign s r x y → EndsBy r s
sign_tail (rule.once r x) = here
sign_tail (rule.option r x) = one _ r
sign_tail (rule.star r x) = one _ r
sign_tail (rule.plus r x) = one _ r

mutual
  pub symbol_tail : {s r : List Token} {x : Symbol} → ReadsSymbol s r x → EndsBy r s
  symbol_tail (rule.guard s r e d) = past _ _ (past _ s (ends_by (one _ r) (expression_tail d)))
  symbol_tail (rule.let_be n s r e d) =
      past _ _ (past _ _ (past _ _ (past _ s (ends_by (one _ r) (expression_tail d)))))
  symbol_tail (rule.labelled n s r x d) = past _ _ (past _ s (marked_tail d))
  symbol_tail (rule.unlabelled s r x d) = marked_tail d

  pub marked_tail : {s r : List Token} {x : Symbol} → ReadsMarked s r x → EndsBy r s
  marked_tail (rule.offside s r x d) = past _ s (post_tail d)
  marked_tail (rule.ignore s r x d) = past _ s (post_tail d)
  marked_tail (rule.align s r x d) = past _ s (post_tail d)
  marked_tail (rule.unmarked s r x d) = post_tail d

  pub post_tail : {s r : List Token} {x : Symbol} → ReadsPost s r x → EndsBy r s
  post_tail (rule.atom s m q r x y z fs d e f h) = ends_by (filters_tail f) (ends_by (sign_tail e) (atom_tail d))
  post_tail (rule.separated t s m q r x y z o fs d e is f h) =
      past _ s (ends_by (ends_by (ends_by (filters_tail f) (past _ _ (one t q))) (marked_tail e)) (marked_tail d))

  pub atom_tail : {s r : List Token} {x : Symbol} → ReadsAtom s r x → EndsBy r s
  atom_tail (rule.literal w r) = one _ r
  atom_tail (rule.class c r) = one _ r
  atom_tail (rule.bare_call n r) = one _ r
  atom_tail (rule.call n s r es d) = past _ s (ends_by (one _ r) (arguments_tail d))
  atom_tail (rule.group s r ys d) = past _ s (ends_by (one _ r) (alternatives_tail d))

  pub alternatives_tail : {s r : List Token} {ys : Alternatives} → ReadsAlternatives s r ys → EndsBy r s
  alternatives_tail (rule.last_alternative s r xs d) = alternative_tail d
  alternatives_tail (rule.further_alternative s m r xs ys d e) =
      ends_by (ends_by (alternatives_tail e) (one _ m)) (alternative_tail d)

  pub alternative_tail : {s r : List Token} {xs : Symbols} → ReadsAlternative s r xs → EndsBy r s
  alternative_tail (rule.no_symbol r) = here
  alternative_tail (rule.further_symbol s m r x xs d e) = ends_by (alternative_tail e) (symbol_tail d)

pub associativity_tail : {s r : List Token} {a : Assoc} → ReadsAssociativity s r a → EndsBy r s
associativity_tail (rule.free r) = here
associativity_tail (rule.left r) = one _ r
associativity_tail (rule.right r) = one _ r
associativity_tail (rule.nonassoc r) = one _ r

pub level_tail : {s r : List Token} {l : Level} → ReadsLevel s r l → EndsBy r s
level_tail (rule.level s m r a alts ys d e h) = ends_by (alternatives_tail e) (associativity_tail d)

pub levels_tail : {s r : List Token} {ls : List Level} → ReadsLevels s r ls → EndsBy r s
levels_tail (rule.last_level s r l d) = level_tail d
levels_tail (rule.further_level s m r l ls d e) = ends_by (ends_by (levels_tail e) (one _ m)) (level_tail d)

pub parameters_tail : {s r : List Token} {ps : List Param} → ReadsParameters s r ps → EndsBy r s
parameters_tail (rule.last_parameter x t k r is) = past _ _ (past _ _ (one t r))
parameters_tail (rule.further_parameter x t k s r ps is d) = past _ _ (past _ _ (past t _ (past _ s (parameters_tail d))))

pub declaration_tail : {s r : List Token} {d : Decl} → ReadsDeclaration s r d → EndsBy r s
declaration_tail (rule.without_parameters t k x s r ls is d) =
    past t _ (past _ _ (past _ s (ends_by (one _ r) (levels_tail d))))
declaration_tail (rule.with_parameters t k x s m r ps ls is d e) =
    past t _ (past _ s (ends_by (past _ _ (past _ m (ends_by (one _ r) (levels_tail e)))) (parameters_tail d)))

-- expressions that are read are written
mutual
  term_written : {s r : List Token} {e : Expression} → ReadsTerm s r e → ExpressionIsWritten e
  term_written (rule.number n r) = tt
  term_written (rule.truth r) = tt
  term_written (rule.falsehood r) = tt
  term_written (rule.here r) = tt
  term_written (rule.variable x r) = tt
  term_written (rule.in_brackets s r e d) = expression_written d
  term_written (rule.function x f s r e is d) = expression_written d
  term_written (rule.same x s m r a b h d e) = (expression_written d, expression_written e)
  term_written (rule.spells x s r a word h d) = expression_written d

  pub expression_written : {s r : List Token} {e : Expression} → ReadsExpression s r e → ExpressionIsWritten e
  expression_written (rule.alone s r e d) = term_written d
  expression_written (rule.binary t o s m r a b is d e) = (term_written d, term_written e)
  expression_written (rule.opposite s r a d) = term_written d
  expression_written (rule.negative s r a d) = term_written d

pub arguments_written : {s r : List Token} {es : List Expression} → ReadsArguments s r es → All ExpressionIsWritten es
arguments_written (rule.last_argument s r e d) = All-cons ExpressionIsWritten e [] (expression_written d) (All-nil ExpressionIsWritten)
arguments_written (rule.further_argument s m r e es d f) = All-cons ExpressionIsWritten e es (expression_written d) (arguments_written f)
