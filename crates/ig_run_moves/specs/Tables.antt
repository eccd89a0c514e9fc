-- Items that name their instance and environment by number, in tables that grow at their end.
use Rattle.std.specs.Prelude.{◌≡◌, ◌↔◌, ℕ, suc, ◌<◌, List, [], ◌++◌, length, Option, Some, slice_get, slice_index_or}
use Rattle.std.specs.Option.{option_to_list}
use Rattle.ig_expr.specs.declared.value.Value.{Value}
use Rattle.ig_item.specs.Items.{Item}
use Rattle.ig_item.specs.Tables.{instance_by, HaveValues}
use Rattle.ig_item.specs.declared.items.Instance.{Instance}
use Rattle.ig_item.specs.declared.items.InstanceKey.{InstanceKey}
use Rattle.ig_item.specs.declared.items.Item as stored

abbrev pub no_key : InstanceKey
no_key = record { nonterminal = 0; env = 0; start = 0 }

-- the item that a stored one stands for
abbrev pub item_by : List (List Value) → List InstanceKey → stored.Item → Item
item_by envs keys x =
    record {
      instance = instance_by envs (slice_index_or keys x.instance no_key);
      alternative = x.alternative;
      dot = x.dot;
      env = slice_index_or envs x.env [];
      position = x.position;
    }

-- its numbers are in the tables
pub record IsNamed (envs : List (List Value)) (keys : List InstanceKey) (x : stored.Item) : Type 0 where
  pub instance : x.instance < length keys
  pub env : x.env < length envs

-- the stored first item of that alternative of the instance of that number and key
abbrev pub first_stored : ℕ → InstanceKey → ℕ → stored.Item
first_stored instance key alternative =
    record { instance = instance; alternative = alternative; dot = 0; env = key.env; position = key.start }

-- the stored item after the next step of `it`, which bound these values and came to `end`
pub record IsPast (before after : List (List Value)) (it : stored.Item) (bound : Option Value) (end : ℕ) (x : stored.Item) :
    Type 0 where
  pub instance : x.instance ≡ it.instance
  pub alternative : x.alternative ≡ it.alternative
  pub dot : x.dot ≡ suc it.dot
  pub position : x.position ≡ end
  pub env : slice_get after x.env ≡ Some (slice_index_or before it.env [] ++ option_to_list bound)

-- one dot further in the same alternative of the same instance
pub record IsOneFurther (it x : stored.Item) : Type 0 where
  pub instance : x.instance ≡ it.instance
  pub alternative : x.alternative ≡ it.alternative
  pub dot : x.dot ≡ suc it.dot

-- `behind` allows one item after the stored `it`, which r is, stored as well; or none, and r is none. The environments were
-- `before`, and are `after`; the instances are any in which `it` is named
pub record Moves (before after : List (List Value)) (it : stored.Item) (behind : Item → Item → Type 0) (r : Option stored.Item) :
    Type 0 where
  pub exact : (keys : List InstanceKey) → HaveValues before keys → IsNamed before keys it → (x : Item) →
      behind (item_by before keys it) x ↔ ((y : stored.Item) × (r ≡ Some y) × (item_by after keys y ≡ x))
  pub named : (y : stored.Item) → r ≡ Some y → (keys : List InstanceKey) → IsNamed before keys it → IsNamed after keys y
  pub further : (y : stored.Item) → r ≡ Some y → IsOneFurther it y

-- `is` allows one instance for the stored `it`, of which r is the key; or none, and r is none
pub record GivesCallee (before after : List (List Value)) (it : stored.Item) (is : Item → Instance → Type 0) (r : Option InstanceKey) :
    Type 0 where
  pub exact : (keys : List InstanceKey) (callee : Instance) →
      is (item_by before keys it) callee ↔ ((key : InstanceKey) × (r ≡ Some key) × (instance_by after key ≡ callee))
  pub there : (key : InstanceKey) → r ≡ Some key → key.env < length after
