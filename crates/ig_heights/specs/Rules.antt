-- Rules between numbered parts, and the heights that they give.
use Rattle.std.specs.Prelude.{◌≡◌, ◌⊎◌, ℕ, zero, suc, ◌+◌, ◌<◌, ◌≤◌, max, List, length, get_or, slice_get, Some, Contains}
use Rattle.ig_heights.specs.declared.rule.Rule.{Rule}
use Rattle.ig_heights.specs.declared.rule.Table.{Table}

-- parts with a number below this one are nodes: their trees are higher by one than what they are made of
abbrev pub rise : (nodes part : ℕ) → ℕ
rise zero part = 0
rise (suc n) zero = 1
rise (suc n) (suc part) = rise n part

abbrev pub height_at : List ℕ → ℕ → ℕ
height_at heights part = get_or heights part 0

-- what the rule makes has this height at least
abbrev pub need : ℕ → List ℕ → Rule → ℕ
need nodes heights rule = max (height_at heights rule.left) (height_at heights rule.right) + rise nodes rule.target

-- some rule gives the part this height
pub record IsGiven (nodes : ℕ) (rules : List Rule) (heights : List ℕ) (part : ℕ) : Type 0 where
  pub rule : Rule
  pub among : Contains rules rule
  pub target : rule.target ≡ part
  pub needs : need nodes heights rule ≤ height_at heights part

-- a height above the number of nodes stands for none
pub record AreLeast (table : Table) (heights : List ℕ) : Type 0 where
  pub long : length heights ≡ table.parts
  pub bounded : (part : ℕ) → height_at heights part ≤ suc table.nodes
  pub bottom : height_at heights table.bottom ≡ 0
  pub given : (part : ℕ) → part < table.parts → height_at heights part ≤ table.nodes →
      (part ≡ table.bottom) ⊎ IsGiven table.nodes table.rules.items heights part
  pub obeyed : (rule : Rule) → Contains table.rules.items rule →
      height_at heights rule.target ≤ need table.nodes heights rule
  pub made : (rule : Rule) → Contains table.rules.items rule → height_at heights rule.left ≤ table.nodes →
      height_at heights rule.right ≤ table.nodes → height_at heights rule.target ≤ table.nodes

-- the list has so many heights, from a part on
pub record IsPart (heights : List ℕ) (from count : ℕ) (list : List ℕ) : Type 0 where
  pub long : length list ≡ count
  pub same : (k h : ℕ) → slice_get list k ≡ Some h → h ≡ height_at heights (from + k)
