-- The tokens of a canonical text follow the rules as the grammar, where some tokens do.
use Rattle.std.proofs.Common.{◌≡◌, sym, subst, refl, List, [], ◌∷◌, ℕ}
use Rattle.std.specs.Prelude.{codes, Option, ℤ}
use Rattle.ig_text.specs.declared.pattern.Pattern.{Pattern}
use Rattle.ig_text.specs.declared.pattern.Pattern.TheVariants as patterns
use Rattle.ig_expr.specs.Expression.{Expression}
use Rattle.ig_expr.specs.declared.operator.Op.{Op}
use Rattle.ig_expr.specs.declared.operator.Op.TheVariants as op
use Rattle.ig_expr.specs.declared.operator.Function.{Function}
use Rattle.ig_expr.specs.declared.operator.Function.TheVariants as functions
use Rattle.ig_expr.specs.declared.kind.Kind.{Kind}
use Rattle.ig_expr.specs.declared.kind.Kind.TheVariants as kind
use Rattle.ig_notation_syntax.specs.Token.{Token, Name, Head, Comma, Close, CloseBrace, Bar, Greater, Equals, Semicolon}
use Rattle.ig_notation_syntax.specs.Token as sign
use Rattle.ig_grammar.specs.Regular.{pattern_of}
use Rattle.ig_grammar.specs.Symbol.{Symbol, Symbols, no_symbols, next_symbol, Alternatives, no_alternatives, next_alternative}
use Rattle.ig_grammar.specs.Symbol as tree
use Rattle.ig_grammar.specs.Alternative.{gathered_alternatives}
use Rattle.ig_grammar.specs.declared.filter.Filter.{Filter}
use Rattle.ig_grammar.specs.declared.filter.Filter.TheVariants as filters
use Rattle.ig_grammar.specs.declared.declaration.Param.{Param}
use Rattle.ig_grammar.specs.declared.declaration.Assoc.{Assoc}
use Rattle.ig_grammar.specs.declared.declaration.Assoc.TheVariants as assoc
use Rattle.ig_grammar.specs.declared.declaration.DeclKind.{DeclKind}
use Rattle.ig_grammar.specs.declared.declaration.Level.{Level}
use Rattle.ig_grammar.specs.declared.declaration.Decl.{Decl}
use Rattle.ig_grammar.specs.declared.grammar.Grammar.{Grammar}
use Rattle.ig_notation_syntax.specs.Rules as rules
use Rattle.ig_notation_syntax.specs.Rules.{IsOperator, IsFunction, ReadsTerm, ReadsExpression, ReadsArguments, IsPattern, IsFilter, ReadsFilters, ReadsSign, IsSeparated, filtered, ReadsSymbol, ReadsMarked, ReadsPost, ReadsAtom, ReadsAlternatives, ReadsAlternative, ReadsAssociativity, ReadsLevel, ReadsLevels, IsKind, ReadsParameters, IsDeclKind, ReadsDeclaration, ReadsDeclarations, ReadsBody, FollowsRules}
use Rattle.ig_show.specs.Pieces.{Piece, blank, line_end, token, tokens}
use Rattle.ig_show.specs.Signs.{associativity_pieces, operator_token, function_name, pattern_token}
use Rattle.ig_show.specs.CanonicalText.{expression_pieces, part_pieces, separated, tabs_pieces, joined, comma, call_pieces, filter_sign, filter_pieces, symbol_pieces, alternative_pieces, further_symbols, alternatives_pieces, further_alternatives, level_pieces, levels_pieces, parameter_pieces, kind_token, head_pieces, declaration_pieces, declaration_token, tokens_of}

is_operator : (o : Op) → IsOperator (operator_token o) o
is_operator op.Add = rules.addition
is_operator op.Sub = rules.subtraction
is_operator op.Mul = rules.multiplication
is_operator op.Div = rules.division
is_operator op.Mod = rules.remainder
is_operator op.Less = rules.less
is_operator op.LessEqual = rules.less_equal
is_operator op.Greater = rules.greater
is_operator op.GreaterEqual = rules.greater_equal
is_operator op.Equal = rules.equal
is_operator op.NotEqual = rules.not_equal
is_operator op.And = rules.conjunction
is_operator op.Or = rules.disjunction

is_function : (f : Function) → IsFunction (function_name f) f
is_function functions.Begin = rules.begin
is_function functions.End = rules.end
is_function functions.Size = rules.size
is_function functions.Column = rules.column
is_function functions.Line = rules.line
is_function functions.Number = rules.number_of

-- as a whole, and as a part of another
record IsShown (e : Expression) : Type 0 where
  whole : (ps : List Piece) → ReadsExpression (tokens (expression_pieces e ps)) (tokens ps) e
  part : (ps : List Piece) → ReadsTerm (tokens (part_pieces e ps)) (tokens ps) e

mutual
  term_to : {s r : List Token} {e : Expression} → ReadsTerm s r e → IsShown e
  term_to (rules.number n r) =
      record { whole = λ ps. rules.alone _ _ _ (rules.number n (tokens ps)); part = λ ps. rules.number n (tokens ps) }
  term_to (rules.truth r) =
      record { whole = λ ps. rules.alone _ _ _ (rules.truth (tokens ps)); part = λ ps. rules.truth (tokens ps) }
  term_to (rules.falsehood r) =
      record { whole = λ ps. rules.alone _ _ _ (rules.falsehood (tokens ps)); part = λ ps. rules.falsehood (tokens ps) }
  term_to (rules.here r) =
      record { whole = λ ps. rules.alone _ _ _ (rules.here (tokens ps)); part = λ ps. rules.here (tokens ps) }
  term_to (rules.variable x r) =
      record { whole = λ ps. rules.alone _ _ _ (rules.variable x (tokens ps)); part = λ ps. rules.variable x (tokens ps) }
  term_to (rules.in_brackets s r e d) = expression_to d
  term_to (rules.function name f s r e i d) =
      let term = λ (ps : List Piece). rules.function (function_name f) f _ (tokens ps) e (is_function f) ((expression_to d).whole (token Close ∷ ps)) in
      record { whole = λ ps. rules.alone _ _ _ (term ps); part = term }
  term_to (rules.same name s m r a b n d f) =
      let term = λ (ps : List Piece).
      rules.same (codes "same") _ _ (tokens ps) a b refl
      ((expression_to d).whole (token Comma ∷ blank ∷ expression_pieces b (token Close ∷ ps)))
      ((expression_to f).whole (token Close ∷ ps)) in
      record { whole = λ ps. rules.alone _ _ _ (term ps); part = term }
  term_to (rules.spells name s r a word n d) =
      let term = λ (ps : List Piece).
      rules.spells (codes "spells") _ (tokens ps) a word refl
      ((expression_to d).whole (token Comma ∷ blank ∷ token (sign.Literal word) ∷ token Close ∷ ps)) in
      record { whole = λ ps. rules.alone _ _ _ (term ps); part = term }

  expression_to : {s r : List Token} {e : Expression} → ReadsExpression s r e → IsShown e
  expression_to (rules.alone s r e d) = term_to d
  expression_to (rules.binary t o s m r a b i d f) =
      let whole = λ (ps : List Piece).
      rules.binary (operator_token o) o _ _ (tokens ps) a b (is_operator o)
      ((term_to d).part (blank ∷ token (operator_token o) ∷ blank ∷ part_pieces b ps)) ((term_to f).part ps) in
      record { whole = whole; part = λ ps. rules.in_brackets _ _ _ (whole (token Close ∷ ps)) }
  expression_to (rules.opposite s r a d) =
      let whole = λ (ps : List Piece). rules.opposite _ (tokens ps) a ((term_to d).part ps) in
      record { whole = whole; part = λ ps. rules.in_brackets _ _ _ (whole (token Close ∷ ps)) }
  expression_to (rules.negative s r a d) =
      let whole = λ (ps : List Piece). rules.negative _ (tokens ps) a ((term_to d).part ps) in
      record { whole = whole; part = λ ps. rules.in_brackets _ _ _ (whole (token Close ∷ ps)) }

-- what stands behind the first of a list that isn't empty
pub arguments_behind : {s r : List Token} {es : List Expression} → ReadsArguments s r es → (ps : List Piece) →
    separated comma expression_pieces es ps ≡ token Comma ∷ blank ∷ joined comma expression_pieces es ps
arguments_behind (rules.last_argument s r e d) ps = refl
arguments_behind (rules.further_argument s m r e es d ds) ps = refl

arguments_to : {s r : List Token} {es : List Expression} → ReadsArguments s r es → (ps : List Piece) →
    ReadsArguments (tokens (joined comma expression_pieces es ps)) (tokens ps) es
arguments_to (rules.last_argument s r e d) ps = rules.last_argument _ _ e ((expression_to d).whole ps)
arguments_to (rules.further_argument s m r e es d ds) ps =
    subst (λ qs. ReadsArguments (tokens (expression_pieces e qs)) (tokens ps) (e ∷ es)) (sym (arguments_behind ds ps))
    (rules.further_argument _ _ _ e es ((expression_to d).whole (token Comma ∷ blank ∷ joined comma expression_pieces es ps)) (arguments_to ds ps))

call_to : {s r : List Token} {es : List Expression} (name : List ℕ) → ReadsArguments s r es → (ps : List Piece) →
    ReadsAtom (tokens (call_pieces name es ps)) (tokens ps) (tree.Call name es)
call_to name (rules.last_argument s r e d) ps = rules.call name _ _ _ (arguments_to (rules.last_argument s r e d) (token Close ∷ ps))
call_to name (rules.further_argument s m r e es d ds) ps =
    rules.call name _ _ _ (arguments_to (rules.further_argument s m r e es d ds) (token Close ∷ ps))

is_pattern : (p : Pattern) → IsPattern (pattern_token p) p
is_pattern (patterns.Literal word) = rules.literal_pattern word
is_pattern (patterns.OneOf class) = rules.class_pattern class

is_filter : (f : Filter) → IsFilter (filter_sign f) (pattern_of f) f
is_filter (filters.NotFollowed p) = rules.not_followed p
is_filter (filters.NotPreceded p) = rules.not_preceded p
is_filter (filters.Not p) = rules.excluded p

filters_read : (fs : List Filter) (ps : List Piece) →
    ReadsFilters (tokens (separated (blank ∷ []) filter_pieces fs ps)) (tokens ps) fs
filters_read [] ps = rules.no_filter (tokens ps)
filters_read (f ∷ fs) ps =
    rules.next_filter _ _ (pattern_of f) f _ _ fs (is_filter f) (is_pattern (pattern_of f)) (filters_read fs ps)

-- an atom and its sign
record IsSigned (x y : Symbol) (ps : List Piece) : Type 0 where
  behind : List Token
  atom : ReadsAtom (tokens (symbol_pieces y ps)) behind x
  sign : ReadsSign behind (tokens ps) x y

signed : {m q : List Token} {x y : Symbol} → ReadsSign m q x y →
    ((ps : List Piece) → ReadsAtom (tokens (symbol_pieces x ps)) (tokens ps) x) → (ps : List Piece) → IsSigned x y ps
signed (rules.once r x) a ps = record { behind = tokens ps; atom = a ps; sign = rules.once _ x }
signed (rules.option r x) a ps = record { behind = _; atom = a (token sign.Question ∷ ps); sign = rules.option (tokens ps) x }
signed (rules.star r x) a ps = record { behind = _; atom = a (token sign.Star ∷ ps); sign = rules.star (tokens ps) x }
signed (rules.plus r x) a ps = record { behind = _; atom = a (token sign.Plus ∷ ps); sign = rules.plus (tokens ps) x }

IsPost : Symbol → Type 0
IsPost z = (ps : List Piece) → ReadsPost (tokens (symbol_pieces z ps)) (tokens ps) z

post_of_atom : {x y : Symbol} (fs : List Filter) → ((ps : List Piece) → IsSigned x y ps) → (ps : List Piece) → ReadsPost (tokens (symbol_pieces (filtered y fs) ps)) (tokens ps) (filtered y fs)
post_of_atom {x} {y} [] a ps =
    rules.atom _ _ _ _ x y y [] (a ps).atom (a ps).sign (rules.no_filter (tokens ps)) refl
post_of_atom {x} {y} (f ∷ fs) a ps =
    let qs : List Piece = separated (blank ∷ []) filter_pieces (f ∷ fs) ps in
    rules.atom _ _ _ _ x y _ (f ∷ fs) (a qs).atom (a qs).sign (filters_read (f ∷ fs) ps) refl

IsMarked : Symbol → Type 0
IsMarked x = (ps : List Piece) → ReadsMarked (tokens (symbol_pieces x ps)) (tokens ps) x

post_of_list : {t : Token} {x separator y : Symbol} (fs : List Filter) → IsSeparated t x separator y →
    ((ps : List Piece) → ReadsMarked (tokens (symbol_pieces x ps)) (tokens ps) x) →
    ((ps : List Piece) → ReadsMarked (tokens (symbol_pieces separator ps)) (tokens ps) separator) →
    (ps : List Piece) → ReadsPost (tokens (symbol_pieces (filtered y fs) ps)) (tokens ps) (filtered y fs)
post_of_list [] (rules.separated_star x separator) a b ps =
    rules.separated sign.Star _ _ _ _ x separator _ _ [] (a _) (b (token CloseBrace ∷ token sign.Star ∷ ps))
    (rules.separated_star x separator) (rules.no_filter (tokens ps)) refl
post_of_list [] (rules.separated_plus x separator) a b ps =
    rules.separated sign.Plus _ _ _ _ x separator _ _ [] (a _) (b (token CloseBrace ∷ token sign.Plus ∷ ps))
    (rules.separated_plus x separator) (rules.no_filter (tokens ps)) refl
post_of_list (f ∷ fs) (rules.separated_star x separator) a b ps =
    let qs : List Piece = separated (blank ∷ []) filter_pieces (f ∷ fs) ps in
    rules.separated sign.Star _ _ _ _ x separator _ _ (f ∷ fs) (a _) (b (token CloseBrace ∷ token sign.Star ∷ qs))
    (rules.separated_star x separator) (filters_read (f ∷ fs) ps) refl
post_of_list (f ∷ fs) (rules.separated_plus x separator) a b ps =
    let qs : List Piece = separated (blank ∷ []) filter_pieces (f ∷ fs) ps in
    rules.separated sign.Plus _ _ _ _ x separator _ _ (f ∷ fs) (a _) (b (token CloseBrace ∷ token sign.Plus ∷ qs))
    (rules.separated_plus x separator) (filters_read (f ∷ fs) ps) refl

-- a space between symbols is no token
pub same_tokens : (xs : Symbols) (ps : List Piece) → tokens (further_symbols xs ps) ≡ tokens (alternative_pieces xs ps)
same_tokens no_symbols ps = refl
same_tokens (next_symbol x xs) ps = refl

pub alternatives_behind : {s r : List Token} {ys : Alternatives} → ReadsAlternatives s r ys → (ps : List Piece) →
    further_alternatives ys ps ≡ blank ∷ token Bar ∷ blank ∷ alternatives_pieces ys ps
alternatives_behind (rules.last_alternative s r xs d) ps = refl
alternatives_behind (rules.further_alternative s m r xs ys d ds) ps = refl

mutual
  symbol_to : {s r : List Token} {x : Symbol} → ReadsSymbol s r x → (ps : List Piece) → ReadsSymbol (tokens (symbol_pieces x ps)) (tokens ps) x
  symbol_to (rules.guard s r e d) ps = rules.guard _ _ e ((expression_to d).whole (token Close ∷ ps))
  symbol_to (rules.let_be name s r e d) ps = rules.let_be name _ _ e ((expression_to d).whole (token Close ∷ ps))
  symbol_to (rules.labelled name s r x d) ps = rules.labelled name _ _ x (marked_to d ps)
  symbol_to (rules.unlabelled s r x d) ps = rules.unlabelled _ _ x (marked_to d ps)

  marked_to : {s r : List Token} {x : Symbol} → ReadsMarked s r x → (ps : List Piece) → ReadsMarked (tokens (symbol_pieces x ps)) (tokens ps) x
  marked_to (rules.offside s r x d) ps = rules.offside _ _ x (post_to d ps)
  marked_to (rules.ignore s r x d) ps = rules.ignore _ _ x (post_to d ps)
  marked_to (rules.align s r x d) ps = rules.align _ _ x (post_to d ps)
  marked_to (rules.unmarked s r x d) ps = rules.unmarked _ _ x (post_to d ps)

  post_to : {s r : List Token} {x : Symbol} → ReadsPost s r x → (ps : List Piece) → ReadsPost (tokens (symbol_pieces x ps)) (tokens ps) x
  post_to (rules.atom s m q r x y z fs a i f e) ps =
      subst (λ v. ReadsPost (tokens (symbol_pieces v ps)) (tokens ps) v) (sym e) (post_of_atom fs (signed i (λ qs. atom_to a qs)) ps)
  post_to (rules.separated t s m q r x separator y z fs a b i f e) ps =
      subst (λ v. ReadsPost (tokens (symbol_pieces v ps)) (tokens ps) v) (sym e)
      (post_of_list fs i (λ qs. marked_to a qs) (λ qs. marked_to b qs) ps)

  atom_to : {s r : List Token} {x : Symbol} → ReadsAtom s r x → (ps : List Piece) → ReadsAtom (tokens (symbol_pieces x ps)) (tokens ps) x
  atom_to (rules.literal word r) ps = rules.literal word (tokens ps)
  atom_to (rules.class c r) ps = rules.class c (tokens ps)
  atom_to (rules.bare_call name r) ps = rules.bare_call name (tokens ps)
  atom_to (rules.call name s r es d) ps = call_to name d ps
  atom_to (rules.group s r ys d) ps = rules.group _ _ ys (alternatives_to d (token Close ∷ ps))

  alternatives_to : {s r : List Token} {ys : Alternatives} → ReadsAlternatives s r ys → (ps : List Piece) →
      ReadsAlternatives (tokens (alternatives_pieces ys ps)) (tokens ps) ys
  alternatives_to (rules.last_alternative s r xs d) ps = rules.last_alternative _ _ xs (alternative_to d ps)
  alternatives_to (rules.further_alternative s m r xs ys d ds) ps =
      subst (λ qs. ReadsAlternatives (tokens (alternative_pieces xs qs)) (tokens ps) (next_alternative xs ys)) (sym (alternatives_behind ds ps))
      (rules.further_alternative _ _ _ xs ys (alternative_to d (blank ∷ token Bar ∷ blank ∷ alternatives_pieces ys ps)) (alternatives_to ds ps))

  alternative_to : {s r : List Token} {xs : Symbols} → ReadsAlternative s r xs → (ps : List Piece) →
      ReadsAlternative (tokens (alternative_pieces xs ps)) (tokens ps) xs
  alternative_to (rules.no_symbol r) ps = rules.no_symbol (tokens ps)
  alternative_to (rules.further_symbol s m r x xs d ds) ps =
      rules.further_symbol _ _ _ x xs (symbol_to d (further_symbols xs ps))
      (subst (λ ts. ReadsAlternative ts (tokens ps) xs) (sym (same_tokens xs ps)) (alternative_to ds ps))

associativity_read : (a : Assoc) (ps : List Piece) → ReadsAssociativity (tokens (associativity_pieces a ps)) (tokens ps) a
associativity_read assoc.Free ps = rules.free (tokens ps)
associativity_read assoc.Left ps = rules.left (tokens ps)
associativity_read assoc.Right ps = rules.right (tokens ps)
associativity_read assoc.Nonassoc ps = rules.nonassoc (tokens ps)

level_to : {s r : List Token} {l : Level} → ReadsLevel s r l → (ps : List Piece) → ReadsLevel (tokens (level_pieces l ps)) (tokens ps) l
level_to (rules.level s m r a alts ys d ds e) ps =
    rules.level _ _ _ a alts (gathered_alternatives alts) (associativity_read a (alternatives_pieces (gathered_alternatives alts) ps))
    (subst (λ zs. ReadsAlternatives (tokens (alternatives_pieces zs ps)) (tokens ps) zs) e (alternatives_to ds ps)) refl

pub levels_behind : {s r : List Token} {ls : List Level} → ReadsLevels s r ls → (ps : List Piece) →
    separated (blank ∷ token Greater ∷ blank ∷ []) level_pieces ls ps ≡ blank ∷ token Greater ∷ blank ∷ levels_pieces ls ps
levels_behind (rules.last_level s r l d) ps = refl
levels_behind (rules.further_level s m r l ls d ds) ps = refl

levels_to : {s r : List Token} {ls : List Level} → ReadsLevels s r ls → (ps : List Piece) → ReadsLevels (tokens (levels_pieces ls ps)) (tokens ps) ls
levels_to (rules.last_level s r l d) ps = rules.last_level _ _ l (level_to d ps)
levels_to (rules.further_level s m r l ls d ds) ps =
    subst (λ qs. ReadsLevels (tokens (level_pieces l qs)) (tokens ps) (l ∷ ls)) (sym (levels_behind ds ps))
    (rules.further_level _ _ _ l ls (level_to d (blank ∷ token Greater ∷ blank ∷ levels_pieces ls ps)) (levels_to ds ps))

is_kind : (k : Kind) → IsKind (kind_token k) k
is_kind kind.Int = rules.int
is_kind kind.Bool = rules.bool
is_kind kind.Span = rules.span

pub parameters_behind : {s r : List Token} {params : List Param} → ReadsParameters s r params → (ps : List Piece) →
    separated comma parameter_pieces params ps ≡ token Comma ∷ blank ∷ joined comma parameter_pieces params ps
parameters_behind (rules.last_parameter name t k r i) ps = refl
parameters_behind (rules.further_parameter name t k s r params i ds) ps = refl

parameters_to : {s r : List Token} {params : List Param} → ReadsParameters s r params → (ps : List Piece) →
    ReadsParameters (tokens (joined comma parameter_pieces params ps)) (tokens ps) params
parameters_to (rules.last_parameter name t k r i) ps = rules.last_parameter name (kind_token k) k (tokens ps) (is_kind k)
parameters_to (rules.further_parameter name t k s r params i ds) ps =
    subst (λ qs. ReadsParameters (Name name ∷ sign.Colon ∷ kind_token k ∷ tokens qs) (tokens ps) (record { name = name; kind = k } ∷ params)) (sym (parameters_behind ds ps))
    (rules.further_parameter name (kind_token k) k _ (tokens ps) params (is_kind k) (parameters_to ds ps))

pub head_to : {s r : List Token} {params : List Param} (name : List ℕ) → ReadsParameters s r params → (ps : List Piece) →
    tokens (head_pieces name params ps) ≡ Head name ∷ tokens (joined comma parameter_pieces params (token Close ∷ ps))
head_to name (rules.last_parameter x t k r i) ps = refl
head_to name (rules.further_parameter x t k s r params i ds) ps = refl

kind_kept : {t : Token} {k : DeclKind} → IsDeclKind t k → IsDeclKind (declaration_token k) k
kind_kept rules.syntax = rules.syntax
kind_kept rules.lexical = rules.lexical
kind_kept rules.layout = rules.layout

declaration_to : {s r : List Token} {d : Decl} → ReadsDeclaration s r d → (ps : List Piece) →
    ReadsDeclaration (tokens (declaration_pieces d ps)) (tokens ps) d
declaration_to (rules.without_parameters t k name s r levels i ls) ps =
    rules.without_parameters _ k name _ (tokens ps) levels (kind_kept i) (levels_to ls (token Semicolon ∷ line_end ∷ ps))
declaration_to (rules.with_parameters t k name s m r params levels i d ls) ps =
    let behind : List Piece = blank ∷ token Equals ∷ blank ∷ levels_pieces levels (token Semicolon ∷ line_end ∷ ps) in
    subst (λ ts. ReadsDeclaration (declaration_token k ∷ ts) (tokens ps) (record { kind = k; name = name; params = params; levels = levels })) (sym (head_to name d behind))
    (rules.with_parameters _ k name _ _ (tokens ps) params levels (kind_kept i) (parameters_to d (token Close ∷ behind))
    (levels_to ls (token Semicolon ∷ line_end ∷ ps)))

declarations_to : {s : List Token} {ds : List Decl} → ReadsDeclarations s ds →
    ReadsDeclarations (tokens (separated [] declaration_pieces ds [])) ds
declarations_to rules.no_declaration = rules.no_declaration
declarations_to (rules.further_declaration s m d ds r rs) =
    rules.further_declaration _ _ d ds (declaration_to r (separated [] declaration_pieces ds [])) (declarations_to rs)

body_to : {s : List Token} {tabs : Option ℤ} {ds : List Decl} → ReadsBody s tabs ds →
    ReadsBody (tokens (tabs_pieces tabs (separated [] declaration_pieces ds []))) tabs ds
body_to (rules.with_tabs n s ds d) = rules.with_tabs n _ ds (declarations_to d)
body_to (rules.without_tabs s ds d) = rules.without_tabs _ ds (declarations_to d)

pub tokens_follow : (ts : List Token) (g : Grammar) → FollowsRules ts g → FollowsRules (tokens_of g) g
tokens_follow ts g (rules.with_start name s tabs ds d) = rules.with_start name _ tabs ds (body_to d)
tokens_follow ts g (rules.without_start s tabs ds d) = rules.without_start _ tabs ds (body_to d)
