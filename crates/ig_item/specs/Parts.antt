-- Lists of values that stand side by side in one list.
use Rattle.std.specs.Prelude.{◌≤◌, List, length, Contains, slice_range}
use Rattle.ig_expr.specs.declared.value.Value.{Value}
use Rattle.ig_item.specs.declared.environment_table.Part.{Part}

-- the values of a part
abbrev pub values_in : List Value → Part → List Value
values_in values part = slice_range values part.begin part.end

-- the part lies within the values
pub record IsPartOf (values : List Value) (part : Part) : Type 0 where
  pub onward : part.begin ≤ part.end
  pub within : part.end ≤ length values

abbrev pub ArePartsOf : List Value → List Part → Type 0
ArePartsOf values parts = (part : Part) → Contains parts part → IsPartOf values part
