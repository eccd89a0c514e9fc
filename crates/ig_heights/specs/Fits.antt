-- Numbers of rules that are there.
use Rattle.std.specs.Prelude.{ℕ, ◌<◌, List, Contains}
use Rattle.ig_heights.specs.declared.rule.Rule.{Rule}

-- more than there are nodes and items, each of which has a number of 32 bits
abbrev pub bottom_end : ℕ
bottom_end = 8589934592

-- the numbers of a rule are there
pub record FitsRule (parts : ℕ) (rule : Rule) : Type 0 where
  pub target : rule.target < parts
  pub left : rule.left < parts
  pub right : rule.right < parts

-- so are those of each of these
abbrev pub FitAll : ℕ → List Rule → Type 0
FitAll parts rules = (rule : Rule) → Contains rules rule → FitsRule parts rule
