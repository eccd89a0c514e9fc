-- What filters ask of a symbol that covers a text from i to e, its own end.
use Rattle.std.specs.Prelude.{ℕ, List, All}
use Rattle.ig_text.specs.Input.{Input}
use Rattle.ig_text.specs.Pattern.{Matches}
use Rattle.ig_grammar.specs.declared.filter.Filter.{Filter}
use Rattle.ig_grammar.specs.declared.filter.Filter.TheVariants.{NotFollowed, NotPreceded, Not}

abbrev pub Passes : Input → ℕ → ℕ → Filter → Type 0
-- no match of the pattern begins at the end
Passes text i e (NotFollowed pattern) = (j : ℕ) → Matches text pattern e j → ⊥
-- no match of the pattern ends at the begin
Passes text i e (NotPreceded pattern) = (h : ℕ) → Matches text pattern h i → ⊥
-- what is covered is no match of the pattern
Passes text i e (Not pattern) = Matches text pattern i e → ⊥

-- each filter is met
abbrev pub PassesAll : Input → ℕ → ℕ → List Filter → Type 0
PassesAll text i e filters = All (Passes text i e) filters
