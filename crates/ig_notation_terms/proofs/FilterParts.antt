-- The parts of the rules, put together of what is read one behind the other: filters.
use Rattle.std.proofs.Common.{◌≡◌, ℕ, ◌+◌, ◌≤◌, ◌<◌, List, [], ◌∷◌, ◌++◌, length, drop, refl, sym, ap, ◌∙◌, subst, arith}
use Rattle.std.specs.Prelude.{Some}
use Rattle.ig_text.specs.declared.pattern.Pattern.{Pattern}
use Rattle.ig_notation_syntax.specs.Token.{Token}
use Rattle.ig_notation_syntax.specs.Rules as rule
use Rattle.ig_notation_syntax.specs.Rules.{IsPattern, IsFilter, ReadsFilters}
use Rattle.ig_grammar.specs.declared.filter.Filter.{Filter}
use Rattle.ig_notation_syntax.specs.Machine as want
use Rattle.ig_notation_syntax.specs.Machine.{after_pattern, after_filters}
use Rattle.ig_notation_syntax.specs.Reading.{Goes}
use Rattle.ig_notation_syntax.specs.View.{token_of}
use Rattle.ig_notation_syntax.specs.declared.token.Token.{Token as Stored}
use Rattle.ig_notation_terms.specs.declared.filters.FilterSign.{FilterSign}
use Rattle.ig_notation_terms.specs.declared.filters.FilterSign.TheVariants.{NotFollowed, NotPreceded, Not}
use Rattle.ig_notation_terms.specs.Readers.{Stands, Misses, Runs, Finds, Front, filter_token, filter_of}
use Rattle.ig_notation_terms.specs.Lists.{snoc, finish}
use Rattle.ig_notation_terms.specs.Steps.{taken, passed, in_row, joined, runs_of, the_same}

pub pattern_is : (a b : Stored) (p q : Pattern) → a ≡ b → p ≡ q → IsPattern (token_of b) q → IsPattern (token_of a) p
pattern_is a b p q e f h = subst (λ z. IsPattern (token_of z) p) (sym e) (subst (IsPattern (token_of b)) (sym f) h)

pub pattern_row : (t : Token) (p : Pattern) → IsPattern t p → after_pattern t ≡ Some []
pattern_row t p (rule.literal_pattern word) = refl
pattern_row t p (rule.class_pattern c) = refl

filter_row : (s : FilterSign) → after_filters (filter_token s) ≡ Some (want.pattern ∷ want.filters ∷ [])
filter_row NotFollowed = refl
filter_row NotPreceded = refl
filter_row Not = refl

is_filter : (s : FilterSign) (p : Pattern) → IsFilter (filter_token s) p (filter_of s p)
is_filter NotFollowed p = rule.not_followed p
is_filter NotPreceded p = rule.not_preceded p
is_filter Not p = rule.excluded p

one_read : (sign t : Token) (T from : List Token) (j : ℕ) (p : Pattern) (f : Filter) (end : List Token) (more : List Filter) → IsFilter sign p f → IsPattern t p →
    drop j T ≡ sign ∷ drop (j + 1) T → drop (j + 1) T ≡ t ∷ from → ReadsFilters from end more → ReadsFilters (drop j T) end (f ∷ more)
one_read sign t T from j p f end more s h d e r =
    subst (λ z. ReadsFilters z end (f ∷ more)) (sym (d ∙ ap (λ z. sign ∷ z) e)) (rule.next_filter sign t p f from end more s h r)

sign_runs : (T : List Token) (j : ℕ) (s : FilterSign) (p : Pattern) → Stands T j (filter_token s) → Finds (λ t. IsPattern t p) T (j + 1) →
    Runs (want.filters ∷ []) (want.filters ∷ []) T j (j + 1 + 1)
sign_runs T j s p h f =
    joined (want.filters ∷ []) (want.pattern ∷ want.filters ∷ []) (want.filters ∷ []) T j (j + 1) (j + 1 + 1)
    (taken want.filters (want.pattern ∷ want.filters ∷ []) (filter_token s) T j h (filter_row s))
    (in_row (want.pattern ∷ []) (want.filters ∷ []) (want.filters ∷ []) T (j + 1) (j + 1 + 1) (j + 1 + 1)
    (taken want.pattern [] f.found T (j + 1) f.stands (pattern_row f.found p f.fits)) (the_same (want.filters ∷ []) T (j + 1 + 1)))

more_at : (T : List Token) (i j : ℕ) (fs gs : List Filter) (s : FilterSign) (p : Pattern) →
    Goes (List Filter) (Front ReadsFilters) (want.filters ∷ []) (want.filters ∷ []) T i j fs → Stands T j (filter_token s) →
    Finds (λ t. IsPattern t p) T (j + 1) → gs ≡ fs ++ filter_of s p ∷ [] →
    Goes (List Filter) (Front ReadsFilters) (want.filters ∷ []) (want.filters ∷ []) T i (j + 1 + 1) gs
more_at T i j fs gs s p g h f e =
    let l : i ≤ j = g.onward in
    let m : j + 1 < length T = f.stands.within in
    record {
      reading = λ end more r. subst (ReadsFilters (drop i T) end) (snoc fs gs more (filter_of s p) e)
          (g.reading end (filter_of s p ∷ more)
          (one_read (filter_token s) f.found T (drop (j + 1 + 1) T) j p (filter_of s p) end more (is_filter s p) f.fits h.there f.stands.there r));
      within = omega arith;
      onward = omega arith;
      runs = (joined (want.filters ∷ []) (want.filters ∷ []) (want.filters ∷ []) T i j (j + 1 + 1)
          (runs_of (Front ReadsFilters) (want.filters ∷ []) (want.filters ∷ []) T i j fs g) (sign_runs T j s p h f)).go_on;
    }

pub more_filters : (T : List Token) (i j : ℕ) (fs gs : List Filter) (s : FilterSign) (p : Pattern) (f : Filter) →
    Goes (List Filter) (Front ReadsFilters) (want.filters ∷ []) (want.filters ∷ []) T i j fs → Stands T j (filter_token s) →
    Finds (λ t. IsPattern t p) T (j + 1) → f ≡ filter_of s p → gs ≡ fs ++ f ∷ [] →
    Goes (List Filter) (Front ReadsFilters) (want.filters ∷ []) (want.filters ∷ []) T i (j + 2) gs
more_filters T i j fs gs s p f g h q d e =
    let n : j + 1 + 1 ≡ j + 2 = omega arith in
    subst (λ z. Goes (List Filter) (Front ReadsFilters) (want.filters ∷ []) (want.filters ∷ []) T i z gs) n
    (more_at T i j fs gs s p g h q (e ∙ ap (λ z. fs ++ z ∷ []) d))

pub all_filters : (T : List Token) (i j : ℕ) (fs gs : List Filter) → Goes (List Filter) (Front ReadsFilters) (want.filters ∷ []) (want.filters ∷ []) T i j fs →
    Misses want.filters T j → gs ≡ fs → Goes (List Filter) ReadsFilters (want.filters ∷ []) [] T i j gs
all_filters T i j fs gs g m e =
    finish ReadsFilters (want.filters ∷ []) T i j fs gs (λ r. rule.no_filter r) g (passed want.filters T j refl m) e
