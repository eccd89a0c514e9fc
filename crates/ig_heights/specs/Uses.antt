-- The rules that use a part, by chains of their numbers.
use Rattle.std.specs.Prelude.{◌≡◌, ◌⊎◌, ℕ, suc, ◌<◌, ◌≤◌, List, [], ◌∷◌, ◌++◌, Some, length, get_or, set, slice_get}
use Rattle.ig_heights.specs.declared.rule.Rule.{Rule}
use Rattle.ig_heights.specs.declared.rule.Table.{Table}
use Rattle.ig_heights.specs.declared.uses.Earlier.{Earlier}
use Rattle.ig_heights.specs.declared.uses.Uses.{Uses}

-- the rule uses the part
abbrev pub HasSource : ℕ → Rule → Type 0
HasSource part rule = (rule.left ≡ part) ⊎ (rule.right ≡ part)

-- it is one of the first so many, and uses the part
pub record IsUse (rules : List Rule) (part count : ℕ) (rule : Rule) : Type 0 where
  pub number : ℕ
  pub low : number < count
  pub at : slice_get rules number ≡ Some rule
  pub source : HasSource part rule

-- of the first so many rules the last one that uses the part stands before this number; none does where it is 0
pub record IsLast (rules : List Rule) (count part behind : ℕ) : Type 0 where
  pub low : behind ≤ count
  pub source : (k : ℕ) (rule : Rule) → behind ≡ suc k → slice_get rules k ≡ Some rule → HasSource part rule
  pub all : (rule : Rule) → IsUse rules part count rule → IsUse rules part behind rule

-- the chains of the first so many rules
pub record AreUses (rules : List Rule) (parts count : ℕ) (uses : Uses) : Type 0 where
  pub long : length uses.last.items ≡ parts
  pub many : length uses.earlier.items ≡ count
  pub last : (part : ℕ) → part < parts → IsLast rules count part (get_or uses.last.items part 0)
  pub left : (k : ℕ) (rule : Rule) (earlier : Earlier) → slice_get rules k ≡ Some rule →
      slice_get uses.earlier.items k ≡ Some earlier → IsLast rules k rule.left earlier.left
  pub right : (k : ℕ) (rule : Rule) (earlier : Earlier) → slice_get rules k ≡ Some rule →
      slice_get uses.earlier.items k ≡ Some earlier → IsLast rules k rule.right earlier.right

abbrev pub AreUsesOf : Table → Uses → Type 0
AreUsesOf table uses = AreUses table.rules.items table.parts (length table.rules.items) uses

-- the rule is now the last one in the chains of both its sources
pub record IsAdded (rule : Rule) (before after : Uses) : Type 0 where
  pub earlier : after.earlier.items ≡
      before.earlier.items ++
      record { left = get_or before.last.items rule.left 0; right = get_or before.last.items rule.right 0 } ∷ []
  pub last : after.last.items ≡
      set (set before.last.items rule.left (suc (length before.earlier.items))) rule.right
      (suc (length before.earlier.items))

-- what the rule of that number has as the one before it in the chain of the part
pub record IsBefore (list : List Earlier) (number : ℕ) (rule : Rule) (part behind : ℕ) : Type 0 where
  pub earlier : Earlier
  pub at : slice_get list number ≡ Some earlier
  pub is : ((rule.left ≡ part) × (behind ≡ earlier.left)) ⊎ ((rule.left ≡ part → ⊥) × (behind ≡ earlier.right))
