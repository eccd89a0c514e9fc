-- How far a run came in a text, and what it expected there.
use Rattle.std.specs.Prelude.{◌≡◌, ◌⊎◌, ℕ, ◌≤◌, List, Option}
use Rattle.ig_text.specs.Input.{Input}
use Rattle.ig_text.specs.declared.pattern.Pattern.{Pattern}
use Rattle.ig_item.specs.Step.{Term}
use Rattle.ig_item.specs.Items.{Item, StandsBefore, IsCompleteRoot, Reachable}
use Rattle.ig_item.specs.declared.core_grammar.Nonterminal.{Nonterminal}

-- the item stands before a terminal of that pattern
pub record Expects (core : List Nonterminal) (it : Item) (what : Pattern) : Type 0 where
  pub names : List (List ℕ)
  pub label : Option (List ℕ)
  pub excluded : List Pattern
  pub before : StandsBefore core it names (Term what label excluded)

module _ (core : List Nonterminal) (text : Input) where
  -- an item that counts: a reachable one that stands before a terminal, or a complete one of the root
  pub record Counts (it : Item) : Type 0 where
    pub reachable : Reachable core text it
    pub reports : ((what : Pattern) × Expects core it what) ⊎ IsCompleteRoot core it

  -- the greatest position of an item that counts, and 0 where there is none
  pub record IsFurthest (p : ℕ) : Type 0 where
    pub greatest : (it : Item) → Counts it → it.position ≤ p
    pub reached : ((it : Item) × Counts it × (it.position ≡ p)) ⊎ (((it : Item) → Counts it → ⊥) × (p ≡ 0))

  -- the pattern is expected at the position
  pub record IsExpected (p : ℕ) (what : Pattern) : Type 0 where
    pub item : Item
    pub reachable : Reachable core text item
    pub expects : Expects core item what
    pub there : item.position ≡ p

  -- the end of the text is expected at the position
  pub record EndIsExpected (p : ℕ) : Type 0 where
    pub item : Item
    pub reachable : Reachable core text item
    pub complete : IsCompleteRoot core item
    pub there : item.position ≡ p
