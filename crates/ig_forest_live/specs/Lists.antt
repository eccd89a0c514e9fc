-- The lists of values of a run, each once and in order.
use Rattle.std.specs.Prelude.{◌≡◌, ◌↔◌, ℕ, List, map, Contains, Some, slice_get}
use Rattle.std.specs.List.Sorted.{IsStrictlySortedBy}
use Rattle.ig_expr.specs.declared.value.Value.{Value}
use Rattle.ig_expr.specs.ValueOrder.{values_cmp}

-- the lists are those of the environments, each once, in order
pub record AreLists (environments lists : List (List Value)) : Type 0 where
  pub members : (list : List Value) → Contains lists list ↔ Contains environments list
  pub order : IsStrictlySortedBy values_cmp lists

-- where each environment stands among the lists
abbrev pub ArePlaces : List (List Value) → List (List Value) → List ℕ → Type 0
ArePlaces environments lists places = map (λ n. slice_get lists n) places ≡ map Some environments
