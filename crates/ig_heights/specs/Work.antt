-- The work list of least heights: what holds between two steps.
use Rattle.std.specs.Prelude.{◌≡◌, ◌⊎◌, ℕ, zero, suc, ◌+◌, ◌*◌, ◌<◌, ◌≤◌, List, [], ◌∷◌, ◌++◌, Option, Some, None, length, set, Contains}
use Rattle.ig_heights.specs.Rules.{rise, height_at, need, IsGiven}
use Rattle.ig_heights.specs.declared.rule.Rule.{Rule}
use Rattle.ig_heights.specs.declared.rule.Table.{Table}
use Rattle.ig_heights.specs.declared.work.Work.{Work}

-- how many of the first so many parts have no height yet
abbrev pub unset : (limit : ℕ) → ℕ → List ℕ → ℕ
unset limit zero heights = 0
unset limit (suc n) [] = 0
unset limit (suc n) (h ∷ heights) = rise h limit + unset limit n heights

-- none of the rules
abbrev pub NoRule : Rule → Type 0
NoRule rule = ⊥

-- the rule is still to be looked at
pub data Waits (current next : List ℕ) (rest : Rule → Type 0) (rule : Rule) : Type 0 where
  left_current : Contains current rule.left → Waits current next rest rule
  right_current : Contains current rule.right → Waits current next rest rule
  left_next : Contains next rule.left → Waits current next rest rule
  right_next : Contains next rule.right → Waits current next rest rule
  itself : rest rule → Waits current next rest rule

-- the parts in `current` have the height of the round, those in `next` one more; a rule is obeyed, or waits
pub record IsWork (table : Table) (heights current next : List ℕ) (height : ℕ) (rest : Rule → Type 0) : Type 0 where
  pub long : length heights ≡ table.parts
  pub bounded : (part : ℕ) → height_at heights part ≤ suc table.nodes
  pub bottom : height_at heights table.bottom ≡ 0
  pub given : (part : ℕ) → part < table.parts → height_at heights part ≤ table.nodes →
      (part ≡ table.bottom) ⊎ IsGiven table.nodes table.rules.items heights part
  pub obeyed : (rule : Rule) → Contains table.rules.items rule →
      (height_at heights rule.target ≤ need table.nodes heights rule) ⊎ Waits current next rest rule
  pub low : (part : ℕ) → height_at heights part ≤ table.nodes →
      height_at heights part ≤ height + rise table.nodes part
  pub ahead : (part : ℕ) → height_at heights part ≤ table.nodes → height < height_at heights part →
      Contains next part
  pub in_round : (part : ℕ) → Contains current part → (part < table.parts) × (height_at heights part ≡ height)
  pub in_next : (part : ℕ) → Contains next part → (part < table.parts) × (height_at heights part ≡ suc height)
  pub room : height + unset table.nodes table.nodes heights + length next ≤ table.nodes

abbrev pub Works : Table → Work → (Rule → Type 0) → Type 0
Works table work rest = IsWork table work.heights.items work.current.items work.next.items work.height rest

-- the rule makes its target now
pub record Fires (nodes : ℕ) (rule : Rule) (work : Work) : Type 0 where
  pub left : height_at work.heights.items rule.left ≤ work.height
  pub right : height_at work.heights.items rule.right ≤ work.height
  pub target : nodes < height_at work.heights.items rule.target

-- what one look at a rule does
pub data Looks (nodes : ℕ) (rule : Rule) (before after : Work) : Type 0 where
  idle : (Fires nodes rule before → ⊥) → after ≡ before → Looks nodes rule before after
  node : Fires nodes rule before → rule.target < nodes →
      after.heights.items ≡ set before.heights.items rule.target (suc before.height) →
      after.current.items ≡ before.current.items → after.next.items ≡ before.next.items ++ rule.target ∷ [] →
      after.height ≡ before.height → Looks nodes rule before after
  item : Fires nodes rule before → nodes ≤ rule.target →
      after.heights.items ≡ set before.heights.items rule.target before.height →
      after.current.items ≡ before.current.items ++ rule.target ∷ [] → after.next.items ≡ before.next.items →
      after.height ≡ before.height → Looks nodes rule before after

-- the last number is taken, where there is one
pub data Pops (before after : List ℕ) : Option ℕ → Type 0 where
  last : (n : ℕ) → before ≡ after ++ n ∷ [] → Pops before after (Some n)
  none : before ≡ [] → after ≡ [] → Pops before after None

-- a part that waited is taken; where none of the round waited, the next round begins
pub data Takes (before after : Work) : Option ℕ → Type 0 where
  here : (part : ℕ) → before.current.items ≡ after.current.items ++ part ∷ [] →
      after.heights.items ≡ before.heights.items → after.next.items ≡ before.next.items → after.height ≡ before.height →
      Takes before after (Some part)
  turn : (part : ℕ) → before.current.items ≡ [] → before.next.items ≡ after.current.items ++ part ∷ [] →
      after.heights.items ≡ before.heights.items → after.next.items ≡ [] → after.height ≡ suc before.height →
      Takes before after (Some part)
  rest : before.current.items ≡ [] → before.next.items ≡ [] → after.heights.items ≡ before.heights.items →
      Takes before after None

-- what is left to do at most
abbrev pub weight : Table → Work → ℕ
weight table work =
    3 * unset table.nodes table.parts work.heights.items + length work.current.items + 2 * length work.next.items
