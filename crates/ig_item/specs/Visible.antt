-- What is visible at a dot of an alternative: the parameters, then what the steps before the dot bind.
use Rattle.std.specs.Prelude.{◌≡◌, ℕ, ◌≤◌, length, List, [], ◌∷◌, ◌++◌, Option, Some, None, option_map, option_and_then, slice_get, take}
use Rattle.std.specs.List.{flat_map}
use Rattle.ig_expr.specs.declared.kind.Kind.{Kind}
use Rattle.ig_expr.specs.declared.kind.Kind.TheVariants.{Span}
use Rattle.ig_expr.specs.Kinds.{kind_in}
use Rattle.ig_item.specs.Step.{Step, Test, Bind, Term, Call, names_of}
use Rattle.ig_item.specs.Core.{numbered}
use Rattle.ig_item.specs.declared.core_grammar.Nonterminal.{Nonterminal}
use Rattle.ig_item.specs.declared.core_grammar.CoreAlt.{CoreAlt}

-- the names that are visible at the dot
abbrev pub names_at : Nonterminal → CoreAlt → ℕ → List (List ℕ)
names_at nonterminal alternative dot = nonterminal.params ++ flat_map names_of (take dot alternative.steps)

-- the names that are visible at each dot of the steps, where these are visible before the first
abbrev pub names_at_dots : List (List ℕ) → List Step → List (List (List ℕ))
names_at_dots names [] = names ∷ []
names_at_dots names (step ∷ steps) = names ∷ names_at_dots (names ++ names_of step) steps

-- the names that are visible at each dot of alternative a of nonterminal n, in order; none where it isn't there
abbrev pub names_in : List Nonterminal → ℕ → ℕ → Option (List (List (List ℕ)))
names_in core n a =
    option_and_then
    (λ nonterminal.
    option_map (λ alternative. names_at_dots nonterminal.params alternative.steps) (numbered nonterminal.alternatives a))
    (slice_get core n)

-- each of the numbers counts names that are there
abbrev pub AreSeen : List (List ℕ) → List ℕ → Type 0
AreSeen names seen = (k n : ℕ) → slice_get seen k ≡ Some n → n ≤ length names

-- the kinds of what a label binds
abbrev pub kinds_of_label : Option (List ℕ) → List Kind
kinds_of_label None = []
kinds_of_label (Some name) = Span ∷ []

-- the kinds of what a step binds, where these names with these kinds are visible; none where its expression has no kind
abbrev pub kinds_of : List (List ℕ) → List Kind → Step → Option (List Kind)
kinds_of names kinds (Test condition) = Some []
kinds_of names kinds (Bind name value) = option_map (λ kind. kind ∷ []) (kind_in names kinds value)
kinds_of names kinds (Term what label excluded) = Some (kinds_of_label label)
kinds_of names kinds (Call callee arguments label excluded) = Some (kinds_of_label label)

-- the kinds that are visible behind steps, where these are visible before them; none where a bound expression has no kind
abbrev pub kinds_behind : List (List ℕ) → List Kind → List Step → Option (List Kind)
kinds_behind names kinds [] = Some kinds
kinds_behind names kinds (step ∷ others) =
    option_and_then (λ bound. kinds_behind (names ++ names_of step) (kinds ++ bound) others) (kinds_of names kinds step)

-- the kinds of the names that are visible at the dot
abbrev pub kinds_at : Nonterminal → CoreAlt → ℕ → Option (List Kind)
kinds_at nonterminal alternative dot = kinds_behind nonterminal.params nonterminal.kinds (take dot alternative.steps)
