-- Tests that decide what derivations ask of a text: values, parameters, matches, columns and filters.
use Rattle.std.proofs.Common.{◌≡◌, ◌∙◌, ℕ, ◌+◌, ◌<◌, Bool, true, false, List, [], ◌∷◌, refl, sym, ap, subst, Option, Some, None, inl, ltb}
use Rattle.std.specs.Prelude.{◌⊎◌, ◌&&◌, ◌||◌, ◌==◌, not, All, Contains, option_map, slice_index_or}
use Rattle.std.specs.Bool.{Decides}
use Rattle.std.proofs.lemmas.Bool.Decides.{Decides-and, Decides-or, Decides-eqb, Decides-ltb, Decides-like, Decides-by_and, Decides-not}
use Rattle.std.proofs.lemmas.List.Elements.{Contains-get_or, All-contains}
use Rattle.ig_text.specs.Input.{Input}
use Rattle.ig_text.specs.Lines.{column_of}
use Rattle.ig_text.specs.Pattern.{Matches}
use Rattle.ig_text.specs.declared.pattern.Pattern.{Pattern}
use Rattle.ig_text.proofs.Options.{mapped}
use Rattle.ig_expr.specs.Expression.{Expression}
use Rattle.ig_expr.specs.Evaluation.{value_of}
use Rattle.ig_expr.specs.Matching.{width, matches_at, matches_before}
use Rattle.ig_expr.specs.declared.value.Value.{Value}
use Rattle.ig_expr.specs.declared.value.Value.TheVariants as value
use Rattle.ig_meaning_examples.specs.Matches.{MatchesAreKnown}
use Rattle.ig_meaning.specs.Environment.{Environment, names, values, HaveValues, no_values, next_value, AreBound, no_parameters, next_parameter}
use Rattle.ig_meaning.specs.Blocks.{IsOffside, AreAligned}
use Rattle.ig_meaning.specs.Filtering.{Passes, PassesAll}
use Rattle.ig_grammar.specs.declared.declaration.Param.{Param}
use Rattle.ig_grammar.specs.declared.filter.Filter.{Filter}
use Rattle.ig_grammar.specs.declared.filter.Filter.TheVariants.{NotFollowed, NotPreceded, Not}
use Rattle.ig_meaning_examples.proofs.Choosing.{IsAmong, OfEach, each}
use Rattle.ig_meaning_examples.proofs.Members.{given, each_given, among_given}

-- the value in front of the values, where both are there
abbrev pub with_value : Option Value → Option (List Value) → Option (List Value)
with_value None vs = None
with_value (Some v) None = None
with_value (Some v) (Some vs) = Some (v ∷ vs)

with_value_parts : (a : Option Value) (b : Option (List Value)) (vs : List Value) → with_value a b ≡ Some vs →
    (v : Value) × (ws : List Value) × (a ≡ Some v) × (b ≡ Some ws) × (v ∷ ws ≡ vs)
with_value_parts None b vs e = absurd (cc)
with_value_parts (Some v) None vs e = absurd (cc)
with_value_parts (Some v) (Some ws) vs e = (v, ws, refl, refl, cc)

module _ (text : Input) (env : Environment) (here : ℕ) where
  -- the values of the expressions, where all have one
  abbrev pub values_at : List Expression → Option (List Value)
  values_at [] = Some []
  values_at (e ∷ es) = with_value (value_of text (names env) (values env) here e) (values_at es)

  pub values_have : (es : List Expression) (vs : List Value) → values_at es ≡ Some vs → HaveValues text env here es vs
  values_have [] vs e = let none : [] ≡ vs = cc in subst (HaveValues text env here []) none no_values
  values_have (x ∷ es) vs e =
      let p = with_value_parts (value_of text (names env) (values env) here x) (values_at es) vs e in
      subst (HaveValues text env here (x ∷ es)) p.4 (next_value x es p.0 p.1 p.2 (values_have es p.1 p.3))

  pub have_values : {es : List Expression} {vs : List Value} → HaveValues text env here es vs → values_at es ≡ Some vs
  have_values no_values = refl
  have_values (next_value e es v vs has others) = λ k. with_value (has k) (have_values others k)

-- the parameters with these values, where there are as many
abbrev pub bound_by : List Param → List Value → Option Environment
bound_by [] [] = Some []
bound_by [] (v ∷ vs) = None
bound_by (p ∷ ps) [] = None
bound_by (p ∷ ps) (v ∷ vs) = option_map (λ env. (p.name, v) ∷ env) (bound_by ps vs)

pub bound_are : (ps : List Param) (vs : List Value) (env : Environment) → bound_by ps vs ≡ Some env → AreBound ps vs env
bound_are [] [] env e = let none : [] ≡ env = cc in subst (AreBound [] []) none no_parameters
bound_are [] (v ∷ vs) env e = absurd (cc)
bound_are (p ∷ ps) [] env e = absurd (cc)
bound_are (p ∷ ps) (v ∷ vs) env e =
    let m = mapped (λ (others : Environment). (p.name, v) ∷ others) (bound_by ps vs) env e in
    next_parameter p ps v vs env m.0 (bound_are ps vs m.0 m.1) m.2

pub are_bound : {ps : List Param} {vs : List Value} {env : Environment} → AreBound ps vs env → bound_by ps vs ≡ Some env
are_bound no_parameters = refl
are_bound (next_parameter p ps v vs env others bound same) =
    ap (option_map (λ rest. (p.name, v) ∷ rest)) (are_bound bound) ∙ ap Some (sym same)

abbrev pub is_truth : Value → Bool
is_truth (value.Bool b) = b
is_truth v = false

pub truth_is : (v : Value) → is_truth v ≡ true → v ≡ value.Bool true
truth_is (value.Bool b) e = ap value.Bool e
truth_is (value.Int n) e = absurd (cc)
truth_is (value.Span s) e = absurd (cc)

-- where a match of the pattern that begins at i ends
abbrev pub ends_of : Input → Pattern → ℕ → List ℕ
ends_of text pattern i = given (matches_at text pattern i) (λ _. (i + width pattern) ∷ [])

pub ends_match : (known : MatchesAreKnown) (text : Input) (pattern : Pattern) (i : ℕ) → OfEach (Matches text pattern i) (ends_of text pattern i)
ends_match known text pattern i = each_given (Matches text pattern i) (matches_at text pattern i) (λ _. (i + width pattern) ∷ []) (λ h.
    let m = (known.decided text pattern i).begins.0 h in
    (subst (Matches text pattern i) (known.width text pattern i m.0 m.1) m.1, tt))

pub matches_end : (known : MatchesAreKnown) (text : Input) (pattern : Pattern) (i e : ℕ) → Matches text pattern i e → IsAmong (ends_of text pattern i) e
matches_end known text pattern i e m =
    among_given (matches_at text pattern i) (λ _. (i + width pattern) ∷ []) e ((known.decided text pattern i).begins.1 (e, m)) (inl (sym (known.width text pattern i e m)))

-- whether all members pass the test
abbrev pub all_pass : {A : Type 0} → (A → Bool) → List A → Bool
all_pass test [] = true
all_pass test (x ∷ xs) = test x && all_pass test xs

abbrev pub passes : Input → ℕ → ℕ → Filter → Bool
passes text i e (NotFollowed pattern) = not (matches_at text pattern e)
passes text i e (NotPreceded pattern) = not (matches_before text pattern i)
passes text i e (Not pattern) = not (matches_at text pattern i && (e == i + width pattern))

covers_all : (known : MatchesAreKnown) (text : Input) (pattern : Pattern) (i e : ℕ) →
    Decides (matches_at text pattern i && (e == i + width pattern)) (Matches text pattern i e)
covers_all known text pattern i e =
    Decides-like (matches_at text pattern i && (e == i + width pattern))
    (λ h. subst (Matches text pattern i) (known.width text pattern i h.0.0 h.0.1 ∙ sym h.1) h.0.1)
    (λ m. ((e, m), known.width text pattern i e m))
    (Decides-and (matches_at text pattern i) (e == i + width pattern) (known.decided text pattern i).begins (Decides-eqb e (i + width pattern)))

passes_decides : (known : MatchesAreKnown) (text : Input) (i e : ℕ) (f : Filter) → Decides (passes text i e f) (Passes text i e f)
passes_decides known text i e (NotFollowed pattern) = (known.decided text pattern e).not_begins
passes_decides known text i e (NotPreceded pattern) = (known.decided text pattern i).not_ends
passes_decides known text i e (Not pattern) =
    Decides-not (matches_at text pattern i && (e == i + width pattern)) (covers_all known text pattern i e)

abbrev pub passes_all : Input → ℕ → ℕ → List Filter → Bool
passes_all text i e filters = all_pass (passes text i e) filters

pub passes_all_decides : (known : MatchesAreKnown) (text : Input) (i e : ℕ) (filters : List Filter) →
    Decides (passes_all text i e filters) (PassesAll text i e filters)
passes_all_decides known text i e filters =
    Decides-by_and (passes text i e) (Passes text i e) (all_pass (passes text i e)) (passes_decides known text i e) refl (λ _ _. refl) filters

contained_all : {A : Type 0} (P : A → Type 0) (xs : List A) → ((x : A) → Contains xs x → P x) → All P xs
contained_all P xs each k d l = each (slice_index_or xs k d) (Contains-get_or xs k d l)

of_contained : {A : Type 0} (test : A → Bool) (P : A → Type 0) (each : (x : A) → Decides (test x) (P x)) (xs : List A) →
    Decides (all_pass test xs) ((x : A) → Contains xs x → P x)
of_contained test P each xs =
    Decides-like (all_pass test xs) (λ all x c. All-contains P xs x all c) (contained_all P xs)
    (Decides-by_and test P (all_pass test) each refl (λ _ _. refl) xs)

-- whether the position is i, or to the right of the column of i
abbrev is_right : Input → ℕ → ℕ → Bool
is_right text i q = (q == i) || ltb (column_of text i) (column_of text q)

abbrev pub are_right : Input → ℕ → List ℕ → Bool
are_right text i starts = all_pass (is_right text i) starts

pub are_right_decides : (text : Input) (i : ℕ) (starts : List ℕ) → Decides (are_right text i starts) (IsOffside text i starts)
are_right_decides text i starts =
    of_contained (is_right text i) (λ q. (q ≡ i) ⊎ (column_of text i < column_of text q)) (λ q. Decides-or (q == i) (ltb (column_of text i) (column_of text q)) (Decides-eqb q i) (Decides-ltb (column_of text i) (column_of text q))) starts

abbrev pub are_aligned : Input → List ℕ → Bool
are_aligned text items = all_pass (λ p. all_pass (λ q. column_of text p == column_of text q) items) items

pub are_aligned_decides : (text : Input) (items : List ℕ) → Decides (are_aligned text items) (AreAligned text items)
are_aligned_decides text items =
    Decides-like (are_aligned text items) (λ h p q c d. h p c q d) (λ h p c q d. h p q c d)
    (of_contained (λ p. all_pass (λ q. column_of text p == column_of text q) items) (λ p. (q : ℕ) → Contains items q → column_of text p ≡ column_of text q) (λ p. of_contained (λ q. column_of text p == column_of text q) (λ q. column_of text p ≡ column_of text q) (λ q. Decides-eqb (column_of text p) (column_of text q)) items) items)
