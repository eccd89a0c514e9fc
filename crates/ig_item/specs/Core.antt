-- Reading a core grammar, which is the list of its nonterminals: they are numbered from 0, the alternatives of each from 1.
use Rattle.std.specs.Prelude.{◌≡◌, ℕ, zero, suc, ◌+◌, List, length, Option, Some, None, option_map, option_and_then, slice_get, sum_by}
use Rattle.ig_item.specs.Step.{Step}
use Rattle.ig_item.specs.declared.core_grammar.Nonterminal.{Nonterminal}
use Rattle.ig_item.specs.declared.core_grammar.CoreAlt.{CoreAlt}

-- the member of that number, from 1
abbrev pub numbered : {A : Type 0} → List A → ℕ → Option A
numbered members zero = None
numbered members (suc k) = slice_get members k

-- alternative a of nonterminal n
abbrev pub alternative_at : List Nonterminal → ℕ → ℕ → Option CoreAlt
alternative_at core n a = option_and_then (λ nonterminal. numbered nonterminal.alternatives a) (slice_get core n)

-- the steps of alternative a of nonterminal n
abbrev pub steps_at : List Nonterminal → ℕ → ℕ → Option (List Step)
steps_at core n a = option_map (λ alternative. alternative.steps) (alternative_at core n a)

-- nonterminal n, and its alternative a
pub record IsAlternative (core : List Nonterminal) (n a : ℕ) (nonterminal : Nonterminal) (alternative : CoreAlt) : Type 0 where
  pub there : slice_get core n ≡ Some nonterminal
  pub has : numbered nonterminal.alternatives a ≡ Some alternative

-- an alternative has a dot before each step, and one behind the last
abbrev pub dots_of_alternative : CoreAlt → ℕ
dots_of_alternative alternative = length alternative.steps + 1

abbrev pub dots_of_nonterminal : Nonterminal → ℕ
dots_of_nonterminal nonterminal = sum_by dots_of_alternative nonterminal.alternatives

-- the number of dots of all alternatives
abbrev pub dots : List Nonterminal → ℕ
dots core = sum_by dots_of_nonterminal core
