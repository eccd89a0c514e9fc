-- The integers of a grammar that is read fit, as the numbers of its tokens do.
use Rattle.std.proofs.Common.{List, [], ◌∷◌, sym, subst}
use Rattle.std.specs.Prelude.{Option, ℤ}
use Rattle.std.proofs.lemmas.List.Elements.{All-head, All-tail}
use Rattle.ig_expr.specs.Expression.{Expression}
use Rattle.ig_grammar.specs.Symbol.{Symbol, Symbols, Alternatives}
use Rattle.ig_grammar.specs.declared.declaration.Decl.{Decl}
use Rattle.ig_grammar.specs.declared.declaration.Assoc.{Assoc}
use Rattle.ig_grammar.specs.declared.declaration.Level.{Level}
use Rattle.ig_grammar.specs.declared.declaration.Param.{Param}
use Rattle.ig_grammar.specs.declared.filter.Filter.{Filter}
use Rattle.ig_grammar.specs.declared.grammar.Grammar.{Grammar}
use Rattle.ig_notation_terms.specs.Limits.{NumberFits, NumbersFit}
use Rattle.ig_notation_syntax.specs.Rules as rule
use Rattle.ig_notation_syntax.specs.Rules.{IsSeparated, ReadsTerm, ReadsExpression, ReadsArguments, ReadsFilters, ReadsSign, ReadsSymbol, ReadsMarked, ReadsPost, ReadsAtom, ReadsAlternatives, ReadsAlternative, ReadsAssociativity, ReadsLevel, ReadsLevels, ReadsParameters, ReadsDeclaration, ReadsDeclarations, ReadsBody, FollowsRules, filtered}
use Rattle.ig_notation_syntax.specs.Token.{Token}
use Rattle.ig_verify_laws.specs.Ranges.{HasSmallIntegers}
use Rattle.ig_verify_laws.proofs.Fitting.{AltsFit, ChoicesFit, DeclsFit, EachFits, Fits, LevelsFit, SymbolsFit, alts_fit}

abbrev pub Few : List Token → Type 0
Few [] = Unit {0}
Few (t ∷ s) = NumberFits t × Few s

few : (s : List Token) → NumbersFit s → Few s
few [] all = tt
few (t ∷ s) all = (All-head NumberFits t s all, few s (All-tail NumberFits t s all))

mutual
  term_fits : {s r : List Token} {e : Expression} → ReadsTerm s r e → Few s → HasSmallIntegers e × Few r
  term_fits (rule.number n r) h = (h.0, h.1)
  term_fits (rule.truth r) h = (tt, h.1)
  term_fits (rule.falsehood r) h = (tt, h.1)
  term_fits (rule.here r) h = (tt, h.1)
  term_fits (rule.variable x r) h = (tt, h.1)
  term_fits (rule.in_brackets s r e d) h = let p = expression_fits d h.1 in (p.0, p.1.1)
  term_fits (rule.function x f s r e is d) h = let p = expression_fits d h.1 in (p.0, p.1.1)
  term_fits (rule.same x s m r a b is d e) h =
      let p = expression_fits d h.1 in let q = expression_fits e p.1.1 in ((p.0, q.0), q.1.1)
  term_fits (rule.spells x s r a word is d) h = let p = expression_fits d h.1 in (p.0, p.1.1.1.1)

  expression_fits : {s r : List Token} {e : Expression} → ReadsExpression s r e → Few s → HasSmallIntegers e × Few r
  expression_fits (rule.alone s r e d) h = term_fits d h
  expression_fits (rule.binary t o s m r a b is d e) h =
      let p = term_fits d h in let q = term_fits e p.1.1 in ((p.0, q.0), q.1)
  expression_fits (rule.opposite s r a d) h = term_fits d h.1
  expression_fits (rule.negative s r a d) h = term_fits d h.1

arguments_fit : {s r : List Token} {es : List Expression} → ReadsArguments s r es → Few s → EachFits es × Few r
arguments_fit (rule.last_argument s r e d) h = let p = expression_fits d h in ((p.0, tt), p.1)
arguments_fit (rule.further_argument s m r e es d f) h =
    let p = expression_fits d h in let q = arguments_fit f p.1.1 in ((p.0, q.0), q.1)

filters_few : {s r : List Token} {fs : List Filter} → ReadsFilters s r fs → Few s → Few r
filters_few (rule.no_filter r) h = h
filters_few (rule.next_filter sign t p f s r fs is be d) h = filters_few d h.1.1

filtered_fits : (x : Symbol) (fs : List Filter) → Fits x → Fits (filtered x fs)
filtered_fits x [] a = a
filtered_fits x (f ∷ fs) a = a

sign_fits : {s r : List Token} {x y : Symbol} → ReadsSign s r x y → Fits x → Few s → Fits y × Few r
sign_fits (rule.once r x) a h = (a, h)
sign_fits (rule.option r x) a h = (a, h.1)
sign_fits (rule.star r x) a h = (a, h.1)
sign_fits (rule.plus r x) a h = (a, h.1)

separated_fits : {t : Token} {x y z : Symbol} → IsSeparated t x y z → Fits x → Fits y → Fits z
separated_fits (rule.separated_star x y) a b = (a, b)
separated_fits (rule.separated_plus x y) a b = (a, b)

mutual
  symbol_fits : {s r : List Token} {x : Symbol} → ReadsSymbol s r x → Few s → Fits x × Few r
  symbol_fits (rule.guard s r e d) h = let p = expression_fits d h.1.1 in (p.0, p.1.1)
  symbol_fits (rule.let_be name s r e d) h = let p = expression_fits d h.1.1.1.1 in (p.0, p.1.1)
  symbol_fits (rule.labelled name s r x d) h = marked_fits d h.1.1
  symbol_fits (rule.unlabelled s r x d) h = marked_fits d h

  marked_fits : {s r : List Token} {x : Symbol} → ReadsMarked s r x → Few s → Fits x × Few r
  marked_fits (rule.offside s r x d) h = post_fits d h.1
  marked_fits (rule.ignore s r x d) h = post_fits d h.1
  marked_fits (rule.align s r x d) h = post_fits d h.1
  marked_fits (rule.unmarked s r x d) h = post_fits d h

  post_fits : {s r : List Token} {x : Symbol} → ReadsPost s r x → Few s → Fits x × Few r
  post_fits (rule.atom s m q r x y z fs d e f is) h =
      let p = atom_fits d h in
      let a = sign_fits e p.0 p.1 in (subst Fits (sym is) (filtered_fits y fs a.0), filters_few f a.1)
  post_fits (rule.separated t s m q r x separator y z fs d e is f be) h =
      let p = marked_fits d h.1 in
      let a = marked_fits e p.1 in
      (subst Fits (sym be) (filtered_fits y fs (separated_fits is p.0 a.0)), filters_few f a.1.1.1)

  atom_fits : {s r : List Token} {x : Symbol} → ReadsAtom s r x → Few s → Fits x × Few r
  atom_fits (rule.literal word r) h = (tt, h.1)
  atom_fits (rule.class c r) h = (tt, h.1)
  atom_fits (rule.bare_call name r) h = (tt, h.1)
  atom_fits (rule.call name s r es d) h = let p = arguments_fit d h.1 in (p.0, p.1.1)
  atom_fits (rule.group s r ys d) h = let p = choices_fit d h.1 in (p.0, p.1.1)

  choices_fit : {s r : List Token} {ys : Alternatives} → ReadsAlternatives s r ys → Few s → ChoicesFit ys × Few r
  choices_fit (rule.last_alternative s r xs d) h = let p = symbols_fit d h in ((p.0, tt), p.1)
  choices_fit (rule.further_alternative s m r xs ys d e) h =
      let p = symbols_fit d h in let q = choices_fit e p.1.1 in ((p.0, q.0), q.1)

  symbols_fit : {s r : List Token} {xs : Symbols} → ReadsAlternative s r xs → Few s → SymbolsFit xs × Few r
  symbols_fit (rule.no_symbol r) h = (tt, h)
  symbols_fit (rule.further_symbol s m r x xs d e) h =
      let p = symbol_fits d h in let q = symbols_fit e p.1 in ((p.0, q.0), q.1)

associativity_few : {s r : List Token} {a : Assoc} → ReadsAssociativity s r a → Few s → Few r
associativity_few (rule.free r) h = h
associativity_few (rule.left r) h = h.1
associativity_few (rule.right r) h = h.1
associativity_few (rule.nonassoc r) h = h.1

level_fits : {s r : List Token} {l : Level} → ReadsLevel s r l → Few s → AltsFit l.alts × Few r
level_fits (rule.level s m r a alts ys d e is) h =
    let p = choices_fit e (associativity_few d h) in (alts_fit alts (subst ChoicesFit is p.0), p.1)

levels_fit : {s r : List Token} {ls : List Level} → ReadsLevels s r ls → Few s → LevelsFit ls × Few r
levels_fit (rule.last_level s r l d) h = let p = level_fits d h in ((p.0, tt), p.1)
levels_fit (rule.further_level s m r l ls d e) h =
    let p = level_fits d h in let q = levels_fit e p.1.1 in ((p.0, q.0), q.1)

parameters_few : {s r : List Token} {ps : List Param} → ReadsParameters s r ps → Few s → Few r
parameters_few (rule.last_parameter x t k r is) h = h.1.1.1
parameters_few (rule.further_parameter x t k s r ps is d) h = parameters_few d h.1.1.1.1

declaration_fits : {s r : List Token} {d : Decl} → ReadsDeclaration s r d → Few s → LevelsFit d.levels × Few r
declaration_fits (rule.without_parameters t k x s r ls is d) h = let p = levels_fit d h.1.1.1 in (p.0, p.1.1)
declaration_fits (rule.with_parameters t k x s m r ps ls is d e) h =
    let q = parameters_few d h.1.1 in let p = levels_fit e q.1.1 in (p.0, p.1.1)

declarations_fit : {s : List Token} {ds : List Decl} → ReadsDeclarations s ds → Few s → DeclsFit ds
declarations_fit rule.no_declaration h = tt
declarations_fit (rule.further_declaration s m d ds e f) h =
    let p = declaration_fits e h in (p.0, declarations_fit f p.1)

body_fits : {s : List Token} {tabs : Option ℤ} {ds : List Decl} → ReadsBody s tabs ds → Few s → DeclsFit ds
body_fits (rule.with_tabs n s ds d) h = declarations_fit d h.1.1.1
body_fits (rule.without_tabs s ds d) h = declarations_fit d h

pub grammar_fits : {s : List Token} {g : Grammar} → FollowsRules s g → Few s → DeclsFit g.decls
grammar_fits (rule.with_start x s tabs ds d) h = body_fits d h.1.1.1
grammar_fits (rule.without_start s tabs ds d) h = body_fits d h

pub read_fits : {s : List Token} {g : Grammar} → FollowsRules s g → NumbersFit s → DeclsFit g.decls
read_fits {s = s} d all = grammar_fits d (few s all)
