-- Each name in a grammar that is read is that of a token.
use Rattle.std.proofs.Common.{◌≡◌, ℕ, List, [], ◌∷◌, Some, subst}
use Rattle.std.specs.Prelude.{All, Option, ℤ}
use Rattle.std.specs.List.{flat_map}
use Rattle.std.proofs.lemmas.List.Elements.{All-nil, All-cons, All-append, All-contains}
use Rattle.ig_expr.specs.Expression.{Expression}
use Rattle.ig_notation_syntax.specs.Token.{Token}
use Rattle.ig_grammar.specs.Symbol.{Symbol}
use Rattle.ig_grammar.specs.Condition.{variables}
use Rattle.ig_grammar.specs.declared.declaration.Param.{Param}
use Rattle.ig_grammar.specs.declared.declaration.Decl.{Decl}
use Rattle.ig_grammar.specs.declared.grammar.Grammar.{Grammar}
use Rattle.ig_grammar.specs.Name.{IsName}
use Rattle.ig_notation_syntax.specs.Rules as rule
use Rattle.ig_notation_syntax.specs.Rules.{IsSeparated, ReadsTerm, ReadsExpression, ReadsArguments, ReadsSign, ReadsParameters, ReadsDeclaration, ReadsDeclarations, ReadsBody, FollowsRules}
use Rattle.ig_notation_syntax.specs.Names.{own_names, HasName, HasNames}
use Rattle.ig_notation_syntax.proofs.Tails.{Facts, tail, head, behind, term_tail, expression_tail, declaration_tail}
use Rattle.ig_notation_syntax.proofs.Standing.{Gives, grammar_holds}

abbrev AreNames : List (List ℕ) → Type 0
AreNames names = All IsName names

no_name : AreNames []
no_name = All-nil IsName

-- variables
mutual
  term_named : {s r : List Token} {e : Expression} → ReadsTerm s r e → Facts HasName s → AreNames (variables e)
  term_named (rule.number n r) h = no_name
  term_named (rule.truth r) h = no_name
  term_named (rule.falsehood r) h = no_name
  term_named (rule.here r) h = no_name
  term_named (rule.variable x r) h = All-cons IsName x [] (head h) no_name
  term_named (rule.in_brackets s r e d) h = expression_named d (tail h)
  term_named (rule.function x f s r e is d) h = expression_named d (tail h)
  term_named (rule.same x s m r a b is d e) h =
      All-append IsName (variables a) (variables b) (expression_named d (tail h))
      (expression_named e (tail (behind (expression_tail d) (tail h))))
  term_named (rule.spells x s r a word is d) h = expression_named d (tail h)

  expression_named : {s r : List Token} {e : Expression} → ReadsExpression s r e → Facts HasName s → AreNames (variables e)
  expression_named (rule.alone s r e d) h = term_named d h
  expression_named (rule.binary t o s m r a b is d e) h =
      All-append IsName (variables a) (variables b) (term_named d h)
      (term_named e (tail (behind (term_tail d) h)))
  expression_named (rule.opposite s r a d) h = term_named d (tail h)
  expression_named (rule.negative s r a d) h = term_named d (tail h)

one_named : (e : Expression) → AreNames (variables e) → AreNames (flat_map variables (e ∷ []))
one_named e h = All-append IsName (variables e) [] h no_name

arguments_named : {s r : List Token} {es : List Expression} → ReadsArguments s r es → Facts HasName s →
    AreNames (flat_map variables es)
arguments_named (rule.last_argument s r e d) h = one_named e (expression_named d h)
arguments_named (rule.further_argument s m r e es d f) h =
    All-append IsName (variables e) (flat_map variables es) (expression_named d h)
    (arguments_named f (tail (behind (expression_tail d) h)))

-- symbols
abbrev IsNamed : Symbol → Type 0
IsNamed x = AreNames (own_names x)

sign_named : {s r : List Token} {x y : Symbol} → ReadsSign s r x y → IsNamed x → IsNamed y
sign_named (rule.once r x) h = h
sign_named (rule.option r x) h = no_name
sign_named (rule.star r x) h = no_name
sign_named (rule.plus r x) h = no_name

separated_named : {t : Token} {x y z : Symbol} → IsSeparated t x y z → IsNamed z
separated_named (rule.separated_star x y) = no_name
separated_named (rule.separated_plus x y) = no_name

named : Gives HasName IsNamed
named =
    record {
      guard = λ s r e d h. one_named e (expression_named d h);
      let_be = λ name s r e n d h. All-cons IsName name _ n (one_named e (expression_named d h));
      label = λ name x n may. All-cons IsName name [] n no_name;
      offside = λ x may. no_name;
      ignore = λ x may. no_name;
      align = λ x may. no_name;
      signed = λ s r x y d f h. sign_named d h;
      separated = λ t x y z is f g. separated_named is;
      with_filters = λ s r x fs d h may. no_name;
      literal = λ word h. no_name;
      class = λ c. no_name;
      bare_call = λ name n. All-cons IsName name [] n no_name;
      call = λ name s r es n d h. All-cons IsName name (flat_map variables es) n (arguments_named d h);
      group = λ ys. no_name;
    }

-- declarations
abbrev IsParam : Param → Type 0
IsParam p = IsName p.name

parameters_named : {s r : List Token} {ps : List Param} → ReadsParameters s r ps → Facts HasName s → All IsParam ps
parameters_named (rule.last_parameter x t k r is) h =
    All-cons IsParam (record { name = x; kind = k }) [] (head h) (All-nil IsParam)
parameters_named (rule.further_parameter x t k s r ps is d) h =
    All-cons IsParam (record { name = x; kind = k }) ps (head h) (parameters_named d (tail (tail (tail (tail h)))))

abbrev IsDeclared : Decl → Type 0
IsDeclared d = IsName d.name × All IsParam d.params

declaration_named : {s r : List Token} {d : Decl} → ReadsDeclaration s r d → Facts HasName s → IsDeclared d
declaration_named (rule.without_parameters t k x s r ls is d) h = (head (tail h), All-nil IsParam)
declaration_named (rule.with_parameters t k x s m r ps ls is d e) h = (head (tail h), parameters_named d (tail (tail h)))

declarations_named : {s : List Token} {ds : List Decl} → ReadsDeclarations s ds → Facts HasName s → All IsDeclared ds
declarations_named rule.no_declaration h = All-nil IsDeclared
declarations_named (rule.further_declaration s m d ds e f) h =
    All-cons IsDeclared d ds (declaration_named e h) (declarations_named f (behind (declaration_tail e) h))

body_named : {s : List Token} {tabs : Option ℤ} {ds : List Decl} → ReadsBody s tabs ds → Facts HasName s → All IsDeclared ds
body_named (rule.with_tabs n s ds d) h = declarations_named d (tail (tail (tail h)))
body_named (rule.without_tabs s ds d) h = declarations_named d h

all_declared : {tokens : List Token} {g : Grammar} → FollowsRules tokens g → Facts HasName tokens → All IsDeclared g.decls
all_declared (rule.with_start x s tabs ds d) h = body_named d (tail (tail (tail h)))
all_declared (rule.without_start s tabs ds d) h = body_named d h

start_named : {tokens : List Token} {g : Grammar} → FollowsRules tokens g → Facts HasName tokens → (name : List ℕ) →
    g.start ≡ Some name → IsName name
start_named (rule.with_start x s tabs ds d) h name e = let same : x ≡ name = cc in subst IsName same (head (tail h))
start_named (rule.without_start s tabs ds d) h name e = absurd (cc)

pub grammar_named : {tokens : List Token} {g : Grammar} → FollowsRules tokens g → All HasName tokens → HasNames g
grammar_named {g = g} d h =
    let facts : Facts HasName _ = record { all = h } in
    let all = all_declared d facts in
    record {
      start = start_named d facts;
      declared = λ decl in_grammar. (All-contains IsDeclared g.decls decl all in_grammar).0;
      parameters = λ decl in_grammar. (All-contains IsDeclared g.decls decl all in_grammar).1;
      within = grammar_holds named d h;
    }
