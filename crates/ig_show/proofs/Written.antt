-- The tokens of a canonical text have spellings, where those have that read as the grammar.
use Rattle.std.proofs.Common.{◌≡◌, sym, subst, refl, ℕ, List, [], ◌∷◌, Bool, true, false}
use Rattle.std.specs.Prelude.{Option, ℤ}
use Rattle.ig_text.specs.declared.pattern.Pattern.{Pattern}
use Rattle.ig_expr.specs.Expression.{Expression}
use Rattle.ig_expr.specs.declared.operator.Op.{Op}
use Rattle.ig_expr.specs.declared.operator.Op.TheVariants as op
use Rattle.ig_expr.specs.declared.operator.Function.{Function}
use Rattle.ig_expr.specs.declared.kind.Kind.{Kind}
use Rattle.ig_expr.specs.declared.kind.Kind.TheVariants as kind
use Rattle.ig_notation_syntax.specs.Token.{Token, Name, Head, Semicolon, Equals, Bar, Greater, Colon, Comma, Open, Close, CloseBrace, Question}
use Rattle.ig_notation_syntax.specs.Token as sign
use Rattle.ig_grammar.specs.Regular.{pattern_of}
use Rattle.ig_grammar.specs.Symbol.{Symbol, Symbols, Alternatives}
use Rattle.ig_grammar.specs.Alternative.{gathered_alternatives}
use Rattle.ig_grammar.specs.declared.filter.Filter.{Filter}
use Rattle.ig_grammar.specs.declared.filter.Filter.TheVariants as filters
use Rattle.ig_grammar.specs.declared.declaration.Param.{Param}
use Rattle.ig_grammar.specs.declared.declaration.Assoc.{Assoc}
use Rattle.ig_grammar.specs.declared.declaration.Level.{Level}
use Rattle.ig_grammar.specs.declared.declaration.Decl.{Decl}
use Rattle.ig_grammar.specs.declared.declaration.DeclKind.{DeclKind}
use Rattle.ig_grammar.specs.declared.grammar.Grammar.{Grammar}
use Rattle.ig_notation_syntax.specs.Rules as rules
use Rattle.ig_notation_syntax.specs.Rules.{IsFunction, ReadsTerm, ReadsExpression, ReadsArguments, IsPattern, IsFilter, ReadsFilters, ReadsSign, IsSeparated, filtered, ReadsSymbol, ReadsMarked, ReadsPost, ReadsAtom, ReadsAlternatives, ReadsAlternative, ReadsAssociativity, ReadsLevel, ReadsLevels, ReadsParameters, IsDeclKind, ReadsDeclaration, ReadsDeclarations, ReadsBody, FollowsRules}
use Rattle.ig_show.specs.Pieces.{Piece, blank, line_end, token, tokens}
use Rattle.ig_show.specs.Signs.{associativity_pieces, has_operator, operator_token, function_name, pattern_token}
use Rattle.ig_show.specs.CanonicalText.{expression_pieces, part_pieces, as_part, separated, tabs_pieces, joined, comma, call_pieces, filter_sign, filter_pieces, symbol_pieces, alternative_pieces, further_symbols, alternatives_pieces, further_alternatives, level_pieces, levels_pieces, parameter_pieces, kind_token, declaration_pieces, declaration_token, tokens_of}
use Rattle.ig_show.specs.SpellingLaws.{IsSpelled, FixedTokensAreSpelled}
use Rattle.ig_show.proofs.ReadsBack.{arguments_behind, alternatives_behind, levels_behind, parameters_behind, head_to, same_tokens}

-- each token has its spelling
abbrev pub AllSpelled : List Token → Type 0
AllSpelled [] = Unit {0}
AllSpelled (t ∷ ts) = IsSpelled t × AllSpelled ts

-- what shows something adds tokens that are spelled, and so are those behind what reads as it
record Keeps (rest : List Token) (shown : List Piece → List Piece) : Type 0 where
  spelled : (ps : List Piece) → AllSpelled (tokens ps) → AllSpelled (tokens (shown ps))
  behind : AllSpelled rest

module _ (fixed : FixedTokensAreSpelled) where
  operator_spelled : (o : Op) → IsSpelled (operator_token o)
  operator_spelled op.Add = fixed sign.Plus refl
  operator_spelled op.Sub = fixed sign.Minus refl
  operator_spelled op.Mul = fixed sign.Star refl
  operator_spelled op.Div = fixed sign.Div refl
  operator_spelled op.Mod = fixed sign.Mod refl
  operator_spelled op.Less = fixed sign.Less refl
  operator_spelled op.LessEqual = fixed sign.AtMost refl
  operator_spelled op.Greater = fixed sign.Greater refl
  operator_spelled op.GreaterEqual = fixed sign.AtLeast refl
  operator_spelled op.Equal = fixed sign.EqualTo refl
  operator_spelled op.NotEqual = fixed sign.NotEqualTo refl
  operator_spelled op.And = fixed sign.And refl
  operator_spelled op.Or = fixed sign.Or refl

  function_spelled : {name : List ℕ} {f : Function} → IsFunction name f → IsSpelled (Head name) → IsSpelled (Head (function_name f))
  function_spelled rules.begin h = h
  function_spelled rules.end h = h
  function_spelled rules.size h = h
  function_spelled rules.column h = h
  function_spelled rules.line h = h
  function_spelled rules.number_of h = h

  part_spelled : (operator : Bool) (shown : List Piece → List Piece) →
      ((ps : List Piece) → AllSpelled (tokens ps) → AllSpelled (tokens (shown ps))) →
      (ps : List Piece) → AllSpelled (tokens ps) → AllSpelled (tokens (as_part operator shown ps))
  part_spelled true shown k ps q = (fixed Open refl, k (token Close ∷ ps) (fixed Close refl, q))
  part_spelled false shown k ps q = k ps q

  mutual
    term_spelled : {s r : List Token} {e : Expression} → ReadsTerm s r e → AllSpelled s → Keeps r (expression_pieces e)
    term_spelled (rules.number n r) a = record { spelled = λ ps q. (a.0, q); behind = a.1 }
    term_spelled (rules.truth r) a = record { spelled = λ ps q. (a.0, q); behind = a.1 }
    term_spelled (rules.falsehood r) a = record { spelled = λ ps q. (a.0, q); behind = a.1 }
    term_spelled (rules.here r) a = record { spelled = λ ps q. (a.0, q); behind = a.1 }
    term_spelled (rules.variable x r) a = record { spelled = λ ps q. (a.0, q); behind = a.1 }
    term_spelled (rules.in_brackets s r e d) a =
        let k = expression_spelled d a.1 in record { spelled = k.spelled; behind = k.behind.1 }
    term_spelled (rules.function name f s r e i d) a =
        let k = expression_spelled d a.1 in
        record { spelled = λ ps q. (function_spelled i a.0, k.spelled (token Close ∷ ps) (k.behind.0, q)); behind = k.behind.1 }
    term_spelled (rules.same name s m r e f n d g) a =
        let k = expression_spelled d a.1 in
        let l = expression_spelled g k.behind.1 in
        record {
          spelled = λ ps q. (
            subst (λ z. IsSpelled (Head z)) n a.0,
            k.spelled (token Comma ∷ blank ∷ expression_pieces f (token Close ∷ ps)) (k.behind.0, l.spelled (token Close ∷ ps) (l.behind.0, q)),
          );
          behind = l.behind.1;
        }
    term_spelled (rules.spells name s r e word n d) a =
        let k = expression_spelled d a.1 in
        record {
          spelled = λ ps q. (
            subst (λ z. IsSpelled (Head z)) n a.0,
            k.spelled (token Comma ∷ blank ∷ token (sign.Literal word) ∷ token Close ∷ ps)
                (k.behind.0, (k.behind.1.0, (k.behind.1.1.0, q))),
          );
          behind = k.behind.1.1.1;
        }

    expression_spelled : {s r : List Token} {e : Expression} → ReadsExpression s r e → AllSpelled s → Keeps r (expression_pieces e)
    expression_spelled (rules.alone s r e d) a = term_spelled d a
    expression_spelled (rules.binary t o s m r e f i d g) a =
        let k = term_spelled d a in
        let l = term_spelled g k.behind.1 in
        record {
          spelled = λ ps q.
              part_spelled (has_operator e) (expression_pieces e) k.spelled
              (blank ∷ token (operator_token o) ∷ blank ∷ part_pieces f ps)
              (operator_spelled o, part_spelled (has_operator f) (expression_pieces f) l.spelled ps q);
          behind = l.behind;
        }
    expression_spelled (rules.opposite s r e d) a =
        let k = term_spelled d a.1 in
        record { spelled = λ ps q. (a.0, part_spelled (has_operator e) (expression_pieces e) k.spelled ps q); behind = k.behind }
    expression_spelled (rules.negative s r e d) a =
        let k = term_spelled d a.1 in
        record { spelled = λ ps q. (a.0, part_spelled (has_operator e) (expression_pieces e) k.spelled ps q); behind = k.behind }

  arguments_spelled : {s r : List Token} {es : List Expression} → ReadsArguments s r es → AllSpelled s → Keeps r (joined comma expression_pieces es)
  arguments_spelled (rules.last_argument s r e d) a =
      let k = expression_spelled d a in record { spelled = λ ps q. k.spelled ps q; behind = k.behind }
  arguments_spelled (rules.further_argument s m r e es d ds) a =
      let k = expression_spelled d a in
      let l = arguments_spelled ds k.behind.1 in
      record {
        spelled = λ ps q.
            k.spelled (separated comma expression_pieces es ps)
            (subst (λ qs. AllSpelled (tokens qs)) (sym (arguments_behind ds ps)) (k.behind.0, l.spelled ps q));
        behind = l.behind;
      }

  call_tokens : {s r : List Token} {es : List Expression} (name : List ℕ) → ReadsArguments s r es → (ps : List Piece) →
      tokens (call_pieces name es ps) ≡ Head name ∷ tokens (joined comma expression_pieces es (token Close ∷ ps))
  call_tokens name (rules.last_argument s r e d) ps = refl
  call_tokens name (rules.further_argument s m r e es d ds) ps = refl

  pattern_spelled : {t : Token} {p : Pattern} → IsPattern t p → IsSpelled t → IsSpelled (pattern_token p)
  pattern_spelled (rules.literal_pattern word) h = h
  pattern_spelled (rules.class_pattern c) h = h

  filter_spelled : (f : Filter) → IsSpelled (filter_sign f)
  filter_spelled (filters.NotFollowed p) = fixed sign.NotFollowedBy refl
  filter_spelled (filters.NotPreceded p) = fixed sign.NotPrecededBy refl
  filter_spelled (filters.Not p) = fixed sign.Backslash refl

  filter_pattern_spelled : {g t : Token} {p : Pattern} {f : Filter} → IsFilter g p f → IsPattern t p → IsSpelled t → IsSpelled (pattern_token (pattern_of f))
  filter_pattern_spelled (rules.not_followed p) j h = pattern_spelled j h
  filter_pattern_spelled (rules.not_preceded p) j h = pattern_spelled j h
  filter_pattern_spelled (rules.excluded p) j h = pattern_spelled j h

  filters_spelled : {s r : List Token} {fs : List Filter} → ReadsFilters s r fs → AllSpelled s → Keeps r (separated (blank ∷ []) filter_pieces fs)
  filters_spelled (rules.no_filter r) a = record { spelled = λ ps q. q; behind = a }
  filters_spelled (rules.next_filter g t p f s r fs i j d) a =
      let k = filters_spelled d a.1.1 in
      record { spelled = λ ps q. (filter_spelled f, (filter_pattern_spelled i j a.1.0, k.spelled ps q)); behind = k.behind }

  sign_spelled : {m q : List Token} {x y : Symbol} → ReadsSign m q x y → Keeps m (symbol_pieces x) → Keeps q (symbol_pieces y)
  sign_spelled (rules.once r x) k = k
  sign_spelled (rules.option r x) k =
      record { spelled = λ ps q. k.spelled (token Question ∷ ps) (k.behind.0, q); behind = k.behind.1 }
  sign_spelled (rules.star r x) k =
      record { spelled = λ ps q. k.spelled (token sign.Star ∷ ps) (k.behind.0, q); behind = k.behind.1 }
  sign_spelled (rules.plus r x) k =
      record { spelled = λ ps q. k.spelled (token sign.Plus ∷ ps) (k.behind.0, q); behind = k.behind.1 }

  filtered_spelled : {q r : List Token} {fs : List Filter} (y : Symbol) → ReadsFilters q r fs → Keeps q (symbol_pieces y) → Keeps r (symbol_pieces (filtered y fs))
  filtered_spelled y (rules.no_filter r) k = k
  filtered_spelled y (rules.next_filter g t p f s m fs i j d) k =
      let l = filters_spelled (rules.next_filter g t p f s m fs i j d) k.behind in
      record {
        spelled = λ ps h. k.spelled (separated (blank ∷ []) filter_pieces (f ∷ fs) ps) (l.spelled ps h);
        behind = l.behind;
      }

  list_spelled : {t : Token} {m q : List Token} {x separator y : Symbol} → IsSeparated t x separator y → IsSpelled sign.OpenBrace → Keeps m (symbol_pieces x) →
      Keeps (CloseBrace ∷ t ∷ q) (symbol_pieces separator) → Keeps q (symbol_pieces y)
  list_spelled (rules.separated_star x separator) o k l =
      record {
        spelled = λ ps h.
            let last : List Piece = token CloseBrace ∷ token sign.Star ∷ ps in
            (o, k.spelled (blank ∷ symbol_pieces separator last) (l.spelled last (l.behind.0, (l.behind.1.0, h))));
        behind = l.behind.1.1;
      }
  list_spelled (rules.separated_plus x separator) o k l =
      record {
        spelled = λ ps h.
            let last : List Piece = token CloseBrace ∷ token sign.Plus ∷ ps in
            (o, k.spelled (blank ∷ symbol_pieces separator last) (l.spelled last (l.behind.0, (l.behind.1.0, h))));
        behind = l.behind.1.1;
      }

  mutual
    symbol_spelled : {s r : List Token} {x : Symbol} → ReadsSymbol s r x → AllSpelled s → Keeps r (symbol_pieces x)
    symbol_spelled (rules.guard s r e d) a =
        let k = expression_spelled d a.1.1 in
        record { spelled = λ ps q. (a.0, (a.1.0, k.spelled (token Close ∷ ps) (k.behind.0, q))); behind = k.behind.1 }
    symbol_spelled (rules.let_be name s r e d) a =
        let k = expression_spelled d a.1.1.1.1 in
        record {
          spelled = λ ps q. (a.0, (a.1.0, (a.1.1.0, (a.1.1.1.0, k.spelled (token Close ∷ ps) (k.behind.0, q)))));
          behind = k.behind.1;
        }
    symbol_spelled (rules.labelled name s r x d) a =
        let k = marked_spelled d a.1.1 in
        record { spelled = λ ps q. (a.0, (a.1.0, k.spelled ps q)); behind = k.behind }
    symbol_spelled (rules.unlabelled s r x d) a = marked_spelled d a

    marked_spelled : {s r : List Token} {x : Symbol} → ReadsMarked s r x → AllSpelled s → Keeps r (symbol_pieces x)
    marked_spelled (rules.offside s r x d) a =
        let k = post_spelled d a.1 in record { spelled = λ ps q. (a.0, k.spelled ps q); behind = k.behind }
    marked_spelled (rules.ignore s r x d) a =
        let k = post_spelled d a.1 in record { spelled = λ ps q. (a.0, k.spelled ps q); behind = k.behind }
    marked_spelled (rules.align s r x d) a =
        let k = post_spelled d a.1 in record { spelled = λ ps q. (a.0, k.spelled ps q); behind = k.behind }
    marked_spelled (rules.unmarked s r x d) a = post_spelled d a

    post_spelled : {s r : List Token} {x : Symbol} → ReadsPost s r x → AllSpelled s → Keeps r (symbol_pieces x)
    post_spelled (rules.atom s m q r x y z fs d i f e) a =
        subst (λ v. Keeps r (symbol_pieces v)) (sym e) (filtered_spelled y f (sign_spelled i (atom_spelled d a)))
    post_spelled (rules.separated t s m q r x separator y z fs d g i f e) a =
        let k = marked_spelled d a.1 in
        let l = marked_spelled g k.behind in
        subst (λ v. Keeps r (symbol_pieces v)) (sym e) (filtered_spelled y f (list_spelled i a.0 k l))

    atom_spelled : {s r : List Token} {x : Symbol} → ReadsAtom s r x → AllSpelled s → Keeps r (symbol_pieces x)
    atom_spelled (rules.literal word r) a = record { spelled = λ ps q. (a.0, q); behind = a.1 }
    atom_spelled (rules.class c r) a = record { spelled = λ ps q. (a.0, q); behind = a.1 }
    atom_spelled (rules.bare_call name r) a = record { spelled = λ ps q. (a.0, q); behind = a.1 }
    atom_spelled (rules.call name s r es d) a =
        let k = arguments_spelled d a.1 in
        record {
          spelled = λ ps q. subst AllSpelled (sym (call_tokens name d ps)) (a.0, k.spelled (token Close ∷ ps) (k.behind.0, q));
          behind = k.behind.1;
        }
    atom_spelled (rules.group s r ys d) a =
        let k = alternatives_spelled d a.1 in
        record { spelled = λ ps q. (a.0, k.spelled (token Close ∷ ps) (k.behind.0, q)); behind = k.behind.1 }

    alternatives_spelled : {s r : List Token} {ys : Alternatives} → ReadsAlternatives s r ys → AllSpelled s → Keeps r (alternatives_pieces ys)
    alternatives_spelled (rules.last_alternative s r xs d) a =
        let k = alternative_spelled d a in record { spelled = λ ps q. k.spelled ps q; behind = k.behind }
    alternatives_spelled (rules.further_alternative s m r xs ys d ds) a =
        let k = alternative_spelled d a in
        let l = alternatives_spelled ds k.behind.1 in
        record {
          spelled = λ ps q.
              k.spelled (further_alternatives ys ps)
              (subst (λ qs. AllSpelled (tokens qs)) (sym (alternatives_behind ds ps)) (k.behind.0, l.spelled ps q));
          behind = l.behind;
        }

    alternative_spelled : {s r : List Token} {xs : Symbols} → ReadsAlternative s r xs → AllSpelled s → Keeps r (alternative_pieces xs)
    alternative_spelled (rules.no_symbol r) a = record { spelled = λ ps q. q; behind = a }
    alternative_spelled (rules.further_symbol s m r x xs d ds) a =
        let k = symbol_spelled d a in
        let l = alternative_spelled ds k.behind in
        record {
          spelled = λ ps q. k.spelled (further_symbols xs ps) (subst AllSpelled (sym (same_tokens xs ps)) (l.spelled ps q));
          behind = l.behind;
        }

  associativity_spelled : {s m : List Token} {x : Assoc} → ReadsAssociativity s m x → AllSpelled s → Keeps m (associativity_pieces x)
  associativity_spelled (rules.free r) a = record { spelled = λ ps q. q; behind = a }
  associativity_spelled (rules.left r) a = record { spelled = λ ps q. (a.0, q); behind = a.1 }
  associativity_spelled (rules.right r) a = record { spelled = λ ps q. (a.0, q); behind = a.1 }
  associativity_spelled (rules.nonassoc r) a = record { spelled = λ ps q. (a.0, q); behind = a.1 }

  level_spelled : {s r : List Token} {l : Level} → ReadsLevel s r l → AllSpelled s → Keeps r (level_pieces l)
  level_spelled (rules.level s m r x alts ys d ds e) a =
      let k = associativity_spelled d a in
      let l = subst (λ z. Keeps r (alternatives_pieces z)) e (alternatives_spelled ds k.behind) in
      record { spelled = λ ps q. k.spelled (alternatives_pieces (gathered_alternatives alts) ps) (l.spelled ps q); behind = l.behind }

  levels_spelled : {s r : List Token} {ls : List Level} → ReadsLevels s r ls → AllSpelled s → Keeps r (levels_pieces ls)
  levels_spelled (rules.last_level s r l d) a =
      let k = level_spelled d a in record { spelled = λ ps q. k.spelled ps q; behind = k.behind }
  levels_spelled (rules.further_level s m r l ls d ds) a =
      let k = level_spelled d a in
      let j = levels_spelled ds k.behind.1 in
      record {
        spelled = λ ps q.
            k.spelled (separated (blank ∷ token Greater ∷ blank ∷ []) level_pieces ls ps)
            (subst (λ qs. AllSpelled (tokens qs)) (sym (levels_behind ds ps)) (k.behind.0, j.spelled ps q));
        behind = j.behind;
      }

  kind_spelled : (k : Kind) → IsSpelled (kind_token k)
  kind_spelled kind.Int = fixed sign.Int refl
  kind_spelled kind.Bool = fixed sign.Bool refl
  kind_spelled kind.Span = fixed sign.Span refl

  parameters_spelled : {s r : List Token} {params : List Param} → ReadsParameters s r params → AllSpelled s → Keeps r (joined comma parameter_pieces params)
  parameters_spelled (rules.last_parameter name t k r i) a =
      record { spelled = λ ps q. (a.0, (a.1.0, (kind_spelled k, q))); behind = a.1.1.1 }
  parameters_spelled (rules.further_parameter name t k s r params i ds) a =
      let l = parameters_spelled ds a.1.1.1.1 in
      record {
        spelled = λ ps q.
            (a.0, (a.1.0, (kind_spelled k, subst (λ qs. AllSpelled (tokens qs)) (sym (parameters_behind ds ps)) (a.1.1.1.0, l.spelled ps q))));
        behind = l.behind;
      }

  declaration_kind_spelled : {t : Token} {k : DeclKind} → IsDeclKind t k → IsSpelled t → IsSpelled (declaration_token k)
  declaration_kind_spelled rules.syntax h = h
  declaration_kind_spelled rules.lexical h = h
  declaration_kind_spelled rules.layout h = h

  declaration_spelled : {s r : List Token} {d : Decl} → ReadsDeclaration s r d → AllSpelled s → Keeps r (declaration_pieces d)
  declaration_spelled (rules.without_parameters t k name s r levels i ls) a =
      let l = levels_spelled ls a.1.1.1 in
      record {
        spelled = λ ps q.
            (declaration_kind_spelled i a.0, (a.1.0, (a.1.1.0, l.spelled (token Semicolon ∷ line_end ∷ ps) (l.behind.0, q))));
        behind = l.behind.1;
      }
  declaration_spelled (rules.with_parameters t k name s m r params levels i d ls) a =
      let j = parameters_spelled d a.1.1 in
      let l = levels_spelled ls j.behind.1.1 in
      record {
        spelled = λ ps q.
            let last : List Piece = blank ∷ token Equals ∷ blank ∷ levels_pieces levels (token Semicolon ∷ line_end ∷ ps) in (
              declaration_kind_spelled i a.0,
              subst AllSpelled (sym (head_to name d last))
                  (a.1.0, j.spelled (token Close ∷ last) (j.behind.0, (j.behind.1.0, l.spelled (token Semicolon ∷ line_end ∷ ps) (l.behind.0, q)))),
            );
        behind = l.behind.1;
      }

  declarations_spelled : {s : List Token} {ds : List Decl} → ReadsDeclarations s ds → AllSpelled s →
      AllSpelled (tokens (separated [] declaration_pieces ds []))
  declarations_spelled rules.no_declaration a = tt
  declarations_spelled (rules.further_declaration s m d ds r rs) a =
      let k = declaration_spelled r a in
      k.spelled (separated [] declaration_pieces ds []) (declarations_spelled rs k.behind)

  body_spelled : {s : List Token} {tabs : Option ℤ} {ds : List Decl} → ReadsBody s tabs ds → AllSpelled s →
      AllSpelled (tokens (tabs_pieces tabs (separated [] declaration_pieces ds [])))
  body_spelled (rules.with_tabs n s ds d) a = (a.0, (a.1.0, (a.1.1.0, declarations_spelled d a.1.1.1)))
  body_spelled (rules.without_tabs s ds d) a = declarations_spelled d a

  pub tokens_spelled : {ts : List Token} {g : Grammar} → FollowsRules ts g → AllSpelled ts → AllSpelled (tokens_of g)
  tokens_spelled (rules.with_start name s tabs ds d) a = (a.0, (a.1.0, (a.1.1.0, body_spelled d a.1.1.1)))
  tokens_spelled (rules.without_start s tabs ds d) a = body_spelled d a
