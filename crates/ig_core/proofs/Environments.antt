-- Environments as names and values side by side.
use Rattle.std.proofs.Common.{◌≡◌, ℕ, List, [], ◌∷◌, ◌++◌, map, Option, Some, None, refl, ap, ap₂, ◌∙◌, subst}
use Rattle.std.proofs.lemmas.List.{map-append}
use Rattle.ig_text.specs.Input.{Input}
use Rattle.ig_text.specs.Pattern.{Matches}
use Rattle.ig_expr.specs.Expression.{Expression}
use Rattle.ig_expr.specs.Evaluation.{value_of}
use Rattle.ig_expr.specs.declared.value.Value.{Value}
use Rattle.std.specs.Prelude.{All}
use Rattle.std.proofs.lemmas.List.Elements.{All-nil, All-cons, All-head, All-tail}
use Rattle.ig_meaning.specs.Environment.{Environment, names, values, HaveValues, no_values, next_value, AreBound, no_parameters, next_parameter}
use Rattle.ig_meaning.specs.Derivation.{span_value}
use Rattle.ig_meaning.specs.Filtering.{Passes, PassesAll}
use Rattle.ig_grammar.specs.declared.filter.Filter.{Filter}
use Rattle.ig_grammar.specs.declared.filter.Filter.TheVariants.{NotFollowed, NotPreceded, Not}
use Rattle.ig_grammar.specs.declared.declaration.Param.{Param}
use Rattle.ig_item.specs.Step.{labels}
use Rattle.ig_item.specs.Items.{span_of, MatchesNone}
use Rattle.ig_pass.specs.Remaining.{IsExclusion, exclusions}

-- what a label binds
abbrev pub bound : Option (List ℕ) → ℕ → ℕ → Environment
bound None i e = []
bound (Some name) i e = (name, span_value i e) ∷ []

pub names_bound : (env : Environment) (l : Option (List ℕ)) (i e : ℕ) → names (env ++ bound l i e) ≡ names env ++ labels l
names_bound env None i e = map-append (λ p. p.0) env []
names_bound env (Some name) i e = map-append (λ p. p.0) env ((name, span_value i e) ∷ [])

pub values_bound : (env : Environment) (l : Option (List ℕ)) (i e : ℕ) → values (env ++ bound l i e) ≡ values env ++ span_of l i e
values_bound env None i e = map-append (λ p. p.1) env []
values_bound env (Some name) i e = map-append (λ p. p.1) env ((name, span_value i e) ∷ [])

pub names_let : (env : Environment) (name : List ℕ) (v : Value) → names (env ++ (name, v) ∷ []) ≡ names env ++ name ∷ []
names_let env name v = map-append (λ p. p.0) env ((name, v) ∷ [])

pub values_let : (env : Environment) (name : List ℕ) (v : Value) → values (env ++ (name, v) ∷ []) ≡ values env ++ v ∷ []
values_let env name v = map-append (λ p. p.1) env ((name, v) ∷ [])

-- what holds behind a label holds with its name and span behind the others
pub with_label : (P : List (List ℕ) → List Value → Type 0) (env after : Environment) (l : Option (List ℕ)) (i e : ℕ) → after ≡ env ++ bound l i e →
    P (names after) (values after) → P (names env ++ labels l) (values env ++ span_of l i e)
with_label P env after l i e is holds =
    subst (λ z. P z (values env ++ span_of l i e)) (ap names is ∙ names_bound env l i e)
    (subst (λ z. P (names after) z) (ap values is ∙ values_bound env l i e) holds)

-- and what holds behind a let, with its name and value
pub with_let : (P : List (List ℕ) → List Value → Type 0) (env after : Environment) (name : List ℕ) (v : Value) → after ≡ env ++ (name, v) ∷ [] →
    P (names after) (values after) → P (names env ++ name ∷ []) (values env ++ v ∷ [])
with_let P env after name v is holds =
    subst (λ z. P z (values env ++ v ∷ [])) (ap names is ∙ names_let env name v)
    (subst (λ z. P (names after) z) (ap values is ∙ values_let env name v) holds)

-- the values of arguments
pub values_to : (text : Input) (env : Environment) (i : ℕ) {es : List Expression} {vs : List Value} → HaveValues text env i es vs →
    map (value_of text (names env) (values env) i) es ≡ map Some vs
values_to text env i no_values = refl
values_to text env i (next_value e es v vs has others) = ap₂ (λ x xs. x ∷ xs) has (values_to text env i others)

pub values_from : (text : Input) (env : Environment) (i : ℕ) (es : List Expression) (vs : List Value) →
    map (value_of text (names env) (values env) i) es ≡ map Some vs → HaveValues text env i es vs
values_from text env i [] [] h = no_values
values_from text env i [] (v ∷ vs) h = cc
values_from text env i (e ∷ es) [] h = cc
values_from text env i (e ∷ es) (v ∷ vs) h = next_value e es v vs (cc) (values_from text env i es vs (cc))

-- the values of parameters
pub bound_names : {ps : List Param} {vs : List Value} {env : Environment} → AreBound ps vs env → names env ≡ map (λ p. p.name) ps
bound_names no_parameters = refl
bound_names (next_parameter p ps v vs env others more is) = ap names is ∙ ap (λ z. p.name ∷ z) (bound_names more)

pub bound_values : {ps : List Param} {vs : List Value} {env : Environment} → AreBound ps vs env → values env ≡ vs
bound_values no_parameters = refl
bound_values (next_parameter p ps v vs env others more is) = ap values is ∙ ap (λ z. v ∷ z) (bound_values more)

-- the filters that exclude
pub passes_to : (text : Input) (i e : ℕ) (fs : List Filter) → All IsExclusion fs → PassesAll text i e fs → MatchesNone text (exclusions fs) i e
passes_to text i e [] are passes = All-nil (λ p. Matches text p i e → ⊥)
passes_to text i e (Not p ∷ fs) are passes =
    All-cons (λ p. Matches text p i e → ⊥) p (exclusions fs) (All-head (Passes text i e) (Not p) fs passes)
    (passes_to text i e fs (All-tail IsExclusion (Not p) fs are) (All-tail (Passes text i e) (Not p) fs passes))
passes_to text i e (NotFollowed p ∷ fs) are passes = absurd (All-head IsExclusion (NotFollowed p) fs are)
passes_to text i e (NotPreceded p ∷ fs) are passes = absurd (All-head IsExclusion (NotPreceded p) fs are)

pub passes_from : (text : Input) (i e : ℕ) (fs : List Filter) → All IsExclusion fs → MatchesNone text (exclusions fs) i e → PassesAll text i e fs
passes_from text i e [] are none = All-nil (Passes text i e)
passes_from text i e (Not p ∷ fs) are none =
    All-cons (Passes text i e) (Not p) fs (All-head (λ p. Matches text p i e → ⊥) p (exclusions fs) none)
    (passes_from text i e fs (All-tail IsExclusion (Not p) fs are) (All-tail (λ p. Matches text p i e → ⊥) p (exclusions fs) none))
passes_from text i e (NotFollowed p ∷ fs) are none = absurd (All-head IsExclusion (NotFollowed p) fs are)
passes_from text i e (NotPreceded p ∷ fs) are none = absurd (All-head IsExclusion (NotPreceded p) fs are)
