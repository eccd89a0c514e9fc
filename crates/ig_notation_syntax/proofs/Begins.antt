-- What a want permits begins by a row of the table, or the want lacks.
use Rattle.std.proofs.Common.{◌≡◌, List, [], ◌∷◌, ◌++◌, refl, ap, subst, true, false}
use Rattle.std.specs.Prelude.{Some}
use Rattle.ig_expr.specs.Expression.{Expression}
use Rattle.ig_expr.specs.declared.kind.Kind.{Kind}
use Rattle.ig_text.specs.declared.pattern.Pattern.{Pattern}
use Rattle.ig_notation_syntax.specs.Token.{Token, Name, Head, Number, Literal, OneOf, Semicolon, Equals, Bar, Greater, Colon, Comma, Open, Close, OpenBrace, CloseBrace, Question, Star, Plus, Minus}
use Rattle.ig_notation_syntax.specs.Token.{Start, Tabs, Left, Right, Nonassoc, Offside, Ignore, Align, When, Let, Here, True, False, Not}
use Rattle.ig_grammar.specs.Symbol as tree
use Rattle.ig_grammar.specs.Symbol.{Symbol, Symbols, Alternatives}
use Rattle.ig_grammar.specs.declared.filter.Filter.{Filter}
use Rattle.ig_grammar.specs.declared.declaration.Param.{Param}
use Rattle.ig_grammar.specs.declared.declaration.Assoc.{Assoc}
use Rattle.ig_grammar.specs.declared.declaration.DeclKind.{DeclKind}
use Rattle.ig_grammar.specs.declared.declaration.Level.{Level}
use Rattle.ig_grammar.specs.declared.declaration.Decl.{Decl}
use Rattle.ig_notation_syntax.specs.Rules as rule
use Rattle.ig_notation_syntax.specs.Rules.{IsPattern, IsSeparated, IsFilter, IsKind, IsDeclKind, ReadsTerm, ReadsExpression, ReadsArguments, ReadsFilters, ReadsSign}
use Rattle.ig_notation_syntax.specs.Rules.{ReadsSymbol, ReadsMarked, ReadsPost, ReadsAtom, ReadsAlternatives, ReadsAlternative, ReadsAssociativity, ReadsLevel, ReadsLevels, ReadsParameters, ReadsDeclaration}
use Rattle.ig_notation_syntax.specs.Machine.{Want, grammar, body, declarations, associativity, alternative, declaration, symbol, marked, post, atom, expression, term}
use Rattle.ig_notation_syntax.specs.Machine.{operator_rest, filters, sign, name_rest, kind, pattern, list_sign}
use Rattle.ig_notation_syntax.specs.Machine.{numeral, literal, comma, close_bracket}
use Rattle.ig_notation_syntax.specs.Machine.{before, may_lack, after_function, after_term, after_expression, after_atom, after_post, after_marked, after_declarations, after_body, after_grammar, after}
use Rattle.ig_notation_syntax.specs.Machine.{alternatives_wants, level_wants, levels_wants, arguments_wants, parameters_wants, declaration_wants}
use Rattle.ig_notation_syntax.specs.Rows.{function_row, operator_row}
use Rattle.ig_notation_syntax.proofs.Spans.{Spans, Chain, done, link, chain_join}
use Rattle.ig_notation_syntax.proofs.Spans as span

-- the first of the tokens takes a row of the want, or the want lacks
pub data Begins (x : Want) : List Token → List Token → Type 0 where
  takes : (t : Token) (s r : List Token) (row : List Want) → after x t ≡ Some row → Chain row s r → Begins x (t ∷ s) r
  passed : (r : List Token) → may_lack x ≡ true → Begins x r r

-- a want whose rows are those of another one, with more behind them
extended : {x y : Want} {rest : List Want} {s m r : List Token} → may_lack x ≡ false →
    ((t : Token) (row : List Want) → after x t ≡ Some row → after y t ≡ Some (row ++ rest)) →
    Begins x s m → Chain rest m r → Begins y s r
extended {r = r} firm rows (takes t s m row e c) d = takes t s r _ (rows t row e) (chain_join c d)
extended firm rows (passed m e) d = absurd (cc)

-- terms and expressions
term_begins : {s r : List Token} {e : Expression} → ReadsTerm s r e → Begins term s r
term_begins (rule.number n r) = takes (Number n) r r [] refl (done r)
term_begins (rule.truth r) = takes True r r [] refl (done r)
term_begins (rule.falsehood r) = takes False r r [] refl (done r)
term_begins (rule.here r) = takes Here r r [] refl (done r)
term_begins (rule.variable x r) = takes (Name x) r r [] refl (done r)
term_begins (rule.in_brackets s r e d) = takes Open s r _ refl (link (span.of_expression s (Close ∷ r) e d) (link (span.of_close r) (done r)))
term_begins (rule.function x f s r e is d) =
    takes (Head x) s r _ (function_row x f is) (link (span.of_expression s (Close ∷ r) e d) (link (span.of_close r) (done r)))
term_begins (rule.same x s m r a b h d e) =
    takes (Head x) s r (expression ∷ comma ∷ expression ∷ close_bracket ∷ []) (ap after_function h)
    (link (span.of_expression s (Comma ∷ m) a d) (link (span.of_comma m) (link (span.of_expression m (Close ∷ r) b e) (link (span.of_close r) (done r)))))
term_begins (rule.spells x s r a w h d) =
    takes (Head x) s r (expression ∷ comma ∷ literal ∷ close_bracket ∷ []) (ap after_function h)
    (link (span.of_expression s (Comma ∷ Literal w ∷ Close ∷ r) a d) (link (span.of_comma _) (link (span.of_literal w _) (link (span.of_close r) (done r)))))

expression_row : (t : Token) (row : List Want) → after_term t ≡ Some row → after_expression t ≡ Some (row ++ operator_rest ∷ [])
expression_row Not row e = absurd (cc)
expression_row Minus row e = absurd (cc)
expression_row t row e = ap (before (operator_rest ∷ [])) e

expression_begins : {s r : List Token} {e : Expression} → ReadsExpression s r e → Begins expression s r
expression_begins (rule.alone s r e d) = extended refl expression_row (term_begins d) (link (span.no_operator r) (done r))
expression_begins (rule.binary t o s m r a b is d e) =
    extended refl expression_row (term_begins d) (link (span.of_operator t o m r b is e) (done r))
expression_begins (rule.opposite s r a d) = takes Not s r _ refl (link (span.of_term s r a d) (done r))
expression_begins (rule.negative s r a d) = takes Minus s r _ refl (link (span.of_term s r a d) (done r))

arguments_chain : {s r : List Token} {es : List Expression} → ReadsArguments s r es → Chain arguments_wants s r
arguments_chain (rule.last_argument s r e d) = link (span.of_expression s r e d) (link (span.no_argument r) (done r))
arguments_chain (rule.further_argument s m r e es d f) =
    link (span.of_expression s (Comma ∷ m) e d) (link (span.of_arguments m r es f) (done r))

-- signs, filters and patterns
sign_by : {s r : List Token} {x y : Symbol} → ReadsSign s r x y → Begins sign s r
sign_by (rule.once r x) = passed r refl
sign_by (rule.option r x) = takes Question r r [] refl (done r)
sign_by (rule.star r x) = takes Star r r [] refl (done r)
sign_by (rule.plus r x) = takes Plus r r [] refl (done r)

list_sign_by : {t : Token} {x y z : Symbol} (r : List Token) → IsSeparated t x y z → Begins list_sign (t ∷ r) r
list_sign_by r (rule.separated_star x y) = takes Star r r [] refl (done r)
list_sign_by r (rule.separated_plus x y) = takes Plus r r [] refl (done r)

pattern_by : {t : Token} {p : Pattern} (r : List Token) → IsPattern t p → Begins pattern (t ∷ r) r
pattern_by r (rule.literal_pattern w) = takes (Literal w) r r [] refl (done r)
pattern_by r (rule.class_pattern c) = takes (OneOf c) r r [] refl (done r)

pub filter_row : (t : Token) (p : Pattern) (f : Filter) → IsFilter t p f → after filters t ≡ Some (pattern ∷ filters ∷ [])
filter_row t p f (rule.not_followed q) = refl
filter_row t p f (rule.not_preceded q) = refl
filter_row t p f (rule.excluded q) = refl

pub filters_begin : {s r : List Token} {fs : List Filter} → ReadsFilters s r fs → Begins filters s r
filters_begin (rule.no_filter r) = passed r refl
filters_begin (rule.next_filter t u p f s r fs is h d) =
    takes t (u ∷ s) r _ (filter_row t p f is) (link (span.of_pattern u p s h) (link (span.of_filters s r fs d) (done r)))

name_row : (t : Token) (row : List Want) → after filters t ≡ Some row → after name_rest t ≡ Some row
name_row Colon row e = absurd (cc)
name_row Question row e = absurd (cc)
name_row Star row e = absurd (cc)
name_row Plus row e = absurd (cc)
name_row t row e = e

filters_alone : {s r : List Token} → Begins filters s r → Begins name_rest s r
filters_alone (takes t s r row e c) = takes t s r row (name_row t row e) c
filters_alone (passed r e) = passed r refl

call_begins : {s m r : List Token} {x y : Symbol} {fs : List Filter} → ReadsSign s m x y → ReadsFilters m r fs → Begins name_rest s r
call_begins (rule.once m x) d = filters_alone (filters_begin d)
call_begins {r = r} {fs = fs} (rule.option m x) d = takes Question m r _ refl (link (span.of_filters m r fs d) (done r))
call_begins {r = r} {fs = fs} (rule.star m x) d = takes Star m r _ refl (link (span.of_filters m r fs d) (done r))
call_begins {r = r} {fs = fs} (rule.plus m x) d = takes Plus m r _ refl (link (span.of_filters m r fs d) (done r))

-- alternatives, atoms, symbols
alternatives_chain : {s r : List Token} {ys : Alternatives} → ReadsAlternatives s r ys → Chain alternatives_wants s r
alternatives_chain (rule.last_alternative s r xs d) = link (span.of_alternative s r xs d) (link (span.no_alternative r) (done r))
alternatives_chain (rule.further_alternative s m r xs ys d e) =
    link (span.of_alternative s (Bar ∷ m) xs d) (link (span.of_alternatives m r ys e) (done r))

atom_begins : {s r : List Token} {x : Symbol} → ReadsAtom s r x → Begins atom s r
atom_begins (rule.literal w r) = takes (Literal w) r r [] refl (done r)
atom_begins (rule.class c r) = takes (OneOf c) r r [] refl (done r)
atom_begins (rule.bare_call x r) = takes (Name x) r r [] refl (done r)
atom_begins (rule.call x s r es d) = takes (Head x) s r _ refl (chain_join (arguments_chain d) (link (span.of_close r) (done r)))
atom_begins (rule.group s r ys d) = takes Open s r _ refl (chain_join (alternatives_chain d) (link (span.of_close r) (done r)))

post_row : (t : Token) (row : List Want) → after_atom t ≡ Some row → after_post t ≡ Some (row ++ sign ∷ filters ∷ [])
post_row OpenBrace row e = absurd (cc)
post_row t row e = ap (before (sign ∷ filters ∷ [])) e

sign_any : (m q : List Token) (x y : Symbol) → ReadsSign m q x y → Spans sign m q
sign_any m q x y (rule.once r z) = span.of_sign r r (λ x. (x, rule.once r x))
sign_any m q x y (rule.option r z) = span.of_sign (Question ∷ r) r (λ x. (tree.Opt x, rule.option r x))
sign_any m q x y (rule.star r z) = span.of_sign (Star ∷ r) r (λ x. (tree.Star x, rule.star r x))
sign_any m q x y (rule.plus r z) = span.of_sign (Plus ∷ r) r (λ x. (tree.Plus x, rule.plus r x))

list_sign_any : (t : Token) (r : List Token) (x y z : Symbol) → IsSeparated t x y z → Spans list_sign (t ∷ r) r
list_sign_any t r x y z (rule.separated_star p q) = span.of_list_sign Star r (λ x y. (tree.SepStar x y, rule.separated_star x y))
list_sign_any t r x y z (rule.separated_plus p q) = span.of_list_sign Plus r (λ x y. (tree.SepPlus x y, rule.separated_plus x y))

pub post_begins : {s r : List Token} {x : Symbol} → ReadsPost s r x → Begins post s r
post_begins (rule.atom s m q r x y z fs d e f h) =
    extended refl post_row (atom_begins d) (link (sign_any m q x y e) (link (span.of_filters q r fs f) (done r)))
post_begins (rule.separated t s m q r x y z u fs d e f g h) =
    takes OpenBrace s r _ refl
    (link (span.of_marked s m x d) (link (span.of_marked m (CloseBrace ∷ t ∷ q) y e)
    (link (span.of_close_brace (t ∷ q)) (link (list_sign_any t q x y z f) (link (span.of_filters q r fs g) (done r))))))

marked_row : (t : Token) (row : List Want) → after_post t ≡ Some row → after_marked t ≡ Some row
marked_row Offside row e = absurd (cc)
marked_row Ignore row e = absurd (cc)
marked_row Align row e = absurd (cc)
marked_row t row e = e

-- a want with the rows of another one
same_rows : {x y : Want} {s r : List Token} → may_lack x ≡ false → ((t : Token) (row : List Want) → after x t ≡ Some row → after y t ≡ Some row) →
    Begins x s r → Begins y s r
same_rows firm rows (takes t s r row e c) = takes t s r row (rows t row e) c
same_rows firm rows (passed r e) = absurd (cc)

pub marked_begins : {s r : List Token} {x : Symbol} → ReadsMarked s r x → Begins marked s r
marked_begins (rule.offside s r x d) = takes Offside s r _ refl (link (span.of_post s r x d) (done r))
marked_begins (rule.ignore s r x d) = takes Ignore s r _ refl (link (span.of_post s r x d) (done r))
marked_begins (rule.align s r x d) = takes Align s r _ refl (link (span.of_post s r x d) (done r))
marked_begins (rule.unmarked s r x d) = same_rows refl marked_row (post_begins d)

call_chain : {s r : List Token} → Chain (sign ∷ filters ∷ []) s r → Chain (name_rest ∷ []) s r
call_chain (link {s = s} {m = m} a (link b (done r))) = link (span.of_call s m r a b) (done r)

of_marked : (t : Token) (s r : List Token) (row : List Want) → after_marked t ≡ Some row → Chain row s r → Begins symbol (t ∷ s) r
of_marked When s r row e c = absurd (cc)
of_marked Let s r row e c = absurd (cc)
of_marked (Name x) s r row e c =
    let h : row ≡ sign ∷ filters ∷ [] = cc in takes (Name x) s r _ refl (call_chain (subst (λ k. Chain k s r) h c))
of_marked t s r row e c = takes t s r row e c

unlabelled : {s r : List Token} → Begins marked s r → Begins symbol s r
unlabelled (takes t s r row e c) = of_marked t s r row e c
unlabelled (passed r e) = absurd (cc)

pub symbol_begins : {s r : List Token} {x : Symbol} → ReadsSymbol s r x → Begins symbol s r
symbol_begins (rule.guard s r e d) =
    takes When (Open ∷ s) r _ refl (link (span.of_open s) (link (span.of_expression s (Close ∷ r) e d) (link (span.of_close r) (done r))))
symbol_begins (rule.let_be x s r e d) =
    takes Let (Name x ∷ Equals ∷ Open ∷ s) r _ refl
    (link (span.of_name x _) (link (span.of_equals _) (link (span.of_open s) (link (span.of_expression s (Close ∷ r) e d) (link (span.of_close r) (done r))))))
symbol_begins (rule.labelled x s r y d) = takes (Name x) (Colon ∷ s) r _ refl (link (span.of_label s r y d) (done r))
symbol_begins (rule.unlabelled s r x d) = unlabelled (marked_begins d)

pub alternative_begins : {s r : List Token} {xs : Symbols} → ReadsAlternative s r xs → Begins alternative s r
alternative_begins (rule.no_symbol r) = passed r refl
alternative_begins (rule.further_symbol s m r x xs d e) =
    extended refl (λ t row. ap (before (alternative ∷ []))) (symbol_begins d) (link (span.of_alternative m r xs e) (done r))

-- levels, parameters, declarations
associativity_begins : {s r : List Token} {a : Assoc} → ReadsAssociativity s r a → Begins associativity s r
associativity_begins (rule.free r) = passed r refl
associativity_begins (rule.left r) = takes Left r r [] refl (done r)
associativity_begins (rule.right r) = takes Right r r [] refl (done r)
associativity_begins (rule.nonassoc r) = takes Nonassoc r r [] refl (done r)

level_chain : {s r : List Token} {l : Level} → ReadsLevel s r l → Chain level_wants s r
level_chain (rule.level s m r a alts ys d e h) = link (span.of_associativity s m a d) (alternatives_chain e)

levels_chain : {s r : List Token} {ls : List Level} → ReadsLevels s r ls → Chain levels_wants s r
levels_chain (rule.last_level s r l d) = chain_join (level_chain d) (link (span.no_level r) (done r))
levels_chain (rule.further_level s m r l ls d e) = chain_join (level_chain d) (link (span.of_levels m r ls e) (done r))

parameters_chain : {s r : List Token} {ps : List Param} → ReadsParameters s r ps → Chain parameters_wants s r
parameters_chain (rule.last_parameter x t k r is) = link (span.of_parameter x t k r is) (link (span.no_parameter r) (done r))
parameters_chain (rule.further_parameter x t k s r ps is d) =
    link (span.of_parameter x t k (Comma ∷ s) is) (link (span.of_parameters s r ps d) (done r))

kind_by : {t : Token} {k : Kind} (r : List Token) → IsKind t k → Begins kind (t ∷ r) r
kind_by r rule.int = takes _ r r [] refl (done r)
kind_by r rule.bool = takes _ r r [] refl (done r)
kind_by r rule.span = takes _ r r [] refl (done r)

declaration_row : (t : Token) (k : DeclKind) → IsDeclKind t k → after declaration t ≡ Some declaration_wants
declaration_row t k rule.syntax = refl
declaration_row t k rule.lexical = refl
declaration_row t k rule.layout = refl

pub declaration_begins : {s r : List Token} {d : Decl} → ReadsDeclaration s r d → Begins declaration s r
declaration_begins (rule.without_parameters t k x s r ls is d) =
    takes t (Name x ∷ Equals ∷ s) r _ (declaration_row t k is)
    (link (span.of_heading x _) (link (span.of_equals s) (chain_join (levels_chain d) (link (span.of_semicolon r) (done r)))))
declaration_begins (rule.with_parameters t k x s m r ps ls is d e) =
    takes t (Head x ∷ s) r _ (declaration_row t k is)
    (link (span.of_heading_with x s (Equals ∷ m) ps d) (link (span.of_equals m) (chain_join (levels_chain e) (link (span.of_semicolon r) (done r)))))

declarations_begin : {s r : List Token} → Spans declarations s r → Begins declarations s r
declarations_begin (span.no_declaration r) = passed r refl
declarations_begin (span.further_declaration s m r d e rest) =
    extended refl (λ t row. ap (before (declarations ∷ []))) (declaration_begins e) (link rest (done r))

body_row : (t : Token) (row : List Want) → after_declarations t ≡ Some row → after_body t ≡ Some row
body_row Tabs row e = absurd (cc)
body_row t row e = e

body_begins : {s r : List Token} → Begins declarations s r → Begins body s r
body_begins (takes t s r row e c) = takes t s r row (body_row t row e) c
body_begins (passed r e) = passed r refl

body_span_begins : {s r : List Token} → Spans body s r → Begins body s r
body_span_begins (span.with_tabs n s r rest) =
    takes Tabs (Number n ∷ Semicolon ∷ s) r _ refl (link (span.of_numeral n _) (link (span.of_semicolon s) (link rest (done r))))
body_span_begins (span.without_tabs s r a) = body_begins (declarations_begin a)

grammar_row : (t : Token) (row : List Want) → after_body t ≡ Some row → after_grammar t ≡ Some row
grammar_row Start row e = absurd (cc)
grammar_row t row e = e

grammar_begins : {s r : List Token} → Begins body s r → Begins grammar s r
grammar_begins (takes t s r row e c) = takes t s r row (grammar_row t row e) c
grammar_begins (passed r e) = passed r refl

-- every want
pub begins : {x : Want} {s r : List Token} → Spans x s r → Begins x s r
begins (span.with_start x s r rest) =
    takes Start (Name x ∷ Semicolon ∷ s) r _ refl (link (span.of_name x _) (link (span.of_semicolon s) (link rest (done r))))
begins (span.without_start s r a) = grammar_begins (body_span_begins a)
begins (span.with_tabs n s r rest) = body_span_begins (span.with_tabs n s r rest)
begins (span.without_tabs s r a) = body_span_begins (span.without_tabs s r a)
begins (span.no_declaration r) = passed r refl
begins (span.further_declaration s m r d e rest) = declarations_begin (span.further_declaration s m r d e rest)
begins (span.of_associativity s r a d) = associativity_begins d
begins (span.of_alternative s r xs d) = alternative_begins d
begins (span.of_declaration s r e d) = declaration_begins d
begins (span.of_parameter x t k r is) =
    takes (Name x) (Colon ∷ t ∷ r) r _ refl (link (span.of_colon (t ∷ r)) (link (span.of_kind t k r is) (done r)))
begins (span.of_symbol s r x d) = symbol_begins d
begins (span.of_marked s r x d) = marked_begins d
begins (span.of_post s r x d) = post_begins d
begins (span.of_atom s r x d) = atom_begins d
begins (span.of_expression s r e d) = expression_begins d
begins (span.of_term s r e d) = term_begins d
begins (span.no_parameter r) = passed r refl
begins (span.of_parameters s r ps d) = takes Comma s r _ refl (parameters_chain d)
begins (span.no_level r) = passed r refl
begins (span.of_levels s r ls d) = takes Greater s r _ refl (levels_chain d)
begins (span.no_alternative r) = passed r refl
begins (span.of_alternatives s r ys d) = takes Bar s r _ refl (alternatives_chain d)
begins (span.no_argument r) = passed r refl
begins (span.of_arguments s r es d) = takes Comma s r _ refl (arguments_chain d)
begins (span.no_operator r) = passed r refl
begins (span.of_operator t o s r e is d) = takes t s r _ (operator_row t o is) (link (span.of_term s r e d) (done r))
begins (span.of_filters s r fs d) = filters_begin d
begins (span.of_sign s r f) = sign_by (f (tree.Literal [])).1
begins (span.of_label s r x d) = takes Colon s r _ refl (link (span.of_marked s r x d) (done r))
begins (span.of_call s m r (span.of_sign p q f) (span.of_filters o n fs e)) = call_begins (f (tree.Literal [])).1 e
begins (span.of_heading x r) = takes (Name x) r r [] refl (done r)
begins (span.of_heading_with x s r ps d) =
    takes (Head x) s r _ refl (chain_join (parameters_chain d) (link (span.of_close r) (done r)))
begins (span.of_kind t k r is) = kind_by r is
begins (span.of_pattern t p r is) = pattern_by r is
begins (span.of_list_sign t r f) = list_sign_by r (f (tree.Literal []) (tree.Literal [])).1
begins (span.of_name x r) = takes (Name x) r r [] refl (done r)
begins (span.of_numeral n r) = takes (Number n) r r [] refl (done r)
begins (span.of_literal x r) = takes (Literal x) r r [] refl (done r)
begins (span.of_semicolon r) = takes Semicolon r r [] refl (done r)
begins (span.of_equals r) = takes Equals r r [] refl (done r)
begins (span.of_colon r) = takes Colon r r [] refl (done r)
begins (span.of_comma r) = takes Comma r r [] refl (done r)
begins (span.of_open r) = takes Open r r [] refl (done r)
begins (span.of_close r) = takes Close r r [] refl (done r)
begins (span.of_close_brace r) = takes CloseBrace r r [] refl (done r)
