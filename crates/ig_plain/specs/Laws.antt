-- Which budgets are enough.
use Rattle.std.specs.Prelude.{◌≡◌, ℕ, ◌+◌, ◌*◌, ◌/◌, ◌≤◌, List, [], length, Contains}
use Rattle.std.specs.List.{flat_map}
use Rattle.ig_text.specs.Input.{Input}
use Rattle.ig_item.specs.Step.{names_of}
use Rattle.ig_item.specs.Core.{dots}
use Rattle.ig_item.specs.WellKinded.{IsWellKinded, OfEach}
use Rattle.ig_item.specs.Items.{Item, Reachable, MoreThan}
use Rattle.ig_item.specs.declared.core_grammar.Nonterminal.{Nonterminal}

-- a budget of as many items as a list has that contains all reachable ones is never exceeded
abbrev pub BudgetsSuffice : Type 0
BudgetsSuffice =
    (core : List Nonterminal) (text : Input) (items : List Item) →
    ((x : Item) → Reachable core text x → Contains items x) → MoreThan core text (length items) → ⊥

-- no nonterminal has parameters, and no step binds a name: it is no `Bind`, and has no label
pub record IsPlain (core : List Nonterminal) : Type 0 where
  pub parameters : (nonterminal : Nonterminal) → Contains core nonterminal → nonterminal.params ≡ []
  pub steps : OfEach core (λ n a nonterminal alternative. flat_map names_of alternative.steps ≡ [])

-- of a well-kinded and plain core grammar with D dots at most D (n + 1) (n + 2) / 2 items are reachable for a text with n
-- characters: an item is told by its dot, its start and its position, of which 0 ≤ start ≤ position ≤ n holds
abbrev pub PlainBudgetsSuffice : Type 0
PlainBudgetsSuffice =
    (core : List Nonterminal) (text : Input) (budget : ℕ) → IsWellKinded core → IsPlain core →
    dots core * (length text.characters + 1) * (length text.characters + 2) / 2 ≤ budget → MoreThan core text budget → ⊥
