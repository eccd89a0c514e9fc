-- Labels, marks, signs and filters of a grammar that is read stand where they may, and no literal is empty.
use Rattle.std.proofs.Common.{List, [], ◌∷◌}
use Rattle.std.specs.Prelude.{All, map}
use Rattle.std.specs.List.{flat_map}
use Rattle.std.proofs.lemmas.List.Elements.{All-nil, All-cons, All-append}
use Rattle.ig_text.specs.declared.pattern.Pattern.{Pattern}
use Rattle.ig_text.specs.declared.pattern.Pattern.TheVariants.{Literal as Spelled}
use Rattle.ig_expr.specs.Expression.{Expression, patterns_in}
use Rattle.ig_notation_syntax.specs.Token as token
use Rattle.ig_notation_syntax.specs.Token.{Token}
use Rattle.ig_text.specs.Pattern.{HasNoEmptyLiteral}
use Rattle.ig_grammar.specs.Symbol.{Symbol, Seq}
use Rattle.ig_grammar.specs.Regular.{MayHaveFilters, MayHaveSign, MayHaveLabel, MayBeSeparated, pattern_of, IsPlaced, AlternativesStandWell, OfEachLevel}
use Rattle.ig_grammar.specs.declared.filter.Filter.{Filter}
use Rattle.ig_grammar.specs.declared.grammar.Grammar.{Grammar}
use Rattle.ig_grammar.specs.Forms.{sign_of_filtered, separated_of_label}
use Rattle.ig_notation_syntax.specs.Rules as rule
use Rattle.ig_notation_syntax.specs.Rules.{IsPattern, IsSeparated, IsFilter, ReadsTerm, ReadsExpression, ReadsArguments, ReadsFilters, ReadsSign, FollowsRules}
use Rattle.ig_notation_syntax.specs.Written.{HasText}
use Rattle.ig_notation_syntax.proofs.Tails.{Facts, tail, head, behind, term_tail, expression_tail}
use Rattle.ig_notation_syntax.proofs.Standing.{Gives, Fits, grammar_holds}

-- literals of expressions
abbrev AreFull : List Pattern → Type 0
AreFull ps = All HasNoEmptyLiteral ps

none_empty : AreFull []
none_empty = All-nil HasNoEmptyLiteral

mutual
  term_full : {s r : List Token} {e : Expression} → ReadsTerm s r e → Facts HasText s → AreFull (patterns_in e)
  term_full (rule.number n r) h = none_empty
  term_full (rule.truth r) h = none_empty
  term_full (rule.falsehood r) h = none_empty
  term_full (rule.here r) h = none_empty
  term_full (rule.variable x r) h = none_empty
  term_full (rule.in_brackets s r e d) h = expression_full d (tail h)
  term_full (rule.function x f s r e is d) h = expression_full d (tail h)
  term_full (rule.same x s m r a b is d e) h =
      All-append HasNoEmptyLiteral (patterns_in a) (patterns_in b) (expression_full d (tail h))
      (expression_full e (tail (behind (expression_tail d) (tail h))))
  term_full (rule.spells x s r a word is d) h =
      let rest : Facts HasText (token.Comma ∷ token.Literal word ∷ token.Close ∷ r) =
      behind (expression_tail d) (tail h) in
      All-cons HasNoEmptyLiteral (Spelled word) (patterns_in a) (head (tail rest)) (expression_full d (tail h))

  expression_full : {s r : List Token} {e : Expression} → ReadsExpression s r e → Facts HasText s → AreFull (patterns_in e)
  expression_full (rule.alone s r e d) h = term_full d h
  expression_full (rule.binary t o s m r a b is d e) h =
      All-append HasNoEmptyLiteral (patterns_in a) (patterns_in b) (term_full d h)
      (term_full e (tail (behind (term_tail d) h)))
  expression_full (rule.opposite s r a d) h = term_full d (tail h)
  expression_full (rule.negative s r a d) h = term_full d (tail h)

one_full : (e : Expression) → AreFull (patterns_in e) → AreFull (flat_map patterns_in (e ∷ []))
one_full e h = All-append HasNoEmptyLiteral (patterns_in e) [] h none_empty

arguments_full : {s r : List Token} {es : List Expression} → ReadsArguments s r es → Facts HasText s →
    AreFull (flat_map patterns_in es)
arguments_full (rule.last_argument s r e d) h = one_full e (expression_full d h)
arguments_full (rule.further_argument s m r e es d f) h =
    All-append HasNoEmptyLiteral (patterns_in e) (flat_map patterns_in es) (expression_full d h)
    (arguments_full f (tail (behind (expression_tail d) h)))

-- filters
filter_full : {t u : Token} {p : Pattern} {f : Filter} → IsFilter t p f → IsPattern u p → HasText u →
    HasNoEmptyLiteral (pattern_of f)
filter_full (rule.not_followed p) (rule.literal_pattern w) h = h
filter_full (rule.not_followed p) (rule.class_pattern c) h = tt
filter_full (rule.not_preceded p) (rule.literal_pattern w) h = h
filter_full (rule.not_preceded p) (rule.class_pattern c) h = tt
filter_full (rule.excluded p) (rule.literal_pattern w) h = h
filter_full (rule.excluded p) (rule.class_pattern c) h = tt

filters_full : {s r : List Token} {fs : List Filter} → ReadsFilters s r fs → Facts HasText s → AreFull (map pattern_of fs)
filters_full (rule.no_filter r) h = none_empty
filters_full (rule.next_filter t u p f s r fs is ist d) h =
    All-cons HasNoEmptyLiteral (pattern_of f) (map pattern_of fs) (filter_full is ist (head (tail h)))
    (filters_full d (tail (tail h)))

sign_placed : {s r : List Token} {x y : Symbol} → ReadsSign s r x y → Fits MayHaveFilters x → IsPlaced x → IsPlaced y
sign_placed (rule.once r x) f h = h
sign_placed (rule.option r x) f h = (none_empty, (sign_of_filtered x f.0, f.1))
sign_placed (rule.star r x) f h = (none_empty, (sign_of_filtered x f.0, f.1))
sign_placed (rule.plus r x) f h = (none_empty, (sign_of_filtered x f.0, f.1))

separated_placed : {t : Token} {x y z : Symbol} → IsSeparated t x y z → Fits MayHaveLabel x → Fits MayHaveLabel y →
    IsPlaced z
separated_placed (rule.separated_star x y) f g =
    (none_empty, (separated_of_label x f.0, separated_of_label y g.0, f.1, g.1))
separated_placed (rule.separated_plus x y) f g =
    (none_empty, (separated_of_label x f.0, separated_of_label y g.0, f.1, g.1))

placed : Gives HasText IsPlaced
placed =
    record {
      guard = λ s r e d h. (one_full e (expression_full d h), tt);
      let_be = λ name s r e n d h. (one_full e (expression_full d h), tt);
      label = λ name x n may. (none_empty, may);
      offside = λ x may. (none_empty, may);
      ignore = λ x may. (none_empty, may);
      align = λ x may. (none_empty, may);
      signed = λ s r x y d f h. sign_placed d f h;
      separated = λ t x y z is f g. separated_placed is f g;
      with_filters = λ s r x fs d h may. (filters_full d h, may);
      literal = λ word h. (All-cons HasNoEmptyLiteral (Spelled word) [] h none_empty, tt);
      class = λ c. (none_empty, tt);
      bare_call = λ name n. (none_empty, tt);
      call = λ name s r es n d h. (arguments_full d h, tt);
      group = λ ys. (none_empty, tt);
    }

pub grammar_stands : {tokens : List Token} {g : Grammar} → FollowsRules tokens g → All HasText tokens →
    OfEachLevel AlternativesStandWell g
grammar_stands d h = grammar_holds placed d h
