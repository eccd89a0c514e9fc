-- Items that name their instance and environment by number, in tables that grow at their end.
use Rattle.std.specs.Prelude.{◌≡◌, List, Contains}
use Rattle.ig_expr.specs.declared.value.Value.{Value}
use Rattle.ig_item.specs.Items.{Item}
use Rattle.ig_item.specs.Tables.{HaveValues}
use Rattle.ig_item.specs.declared.items.InstanceKey.{InstanceKey}
use Rattle.ig_item.specs.declared.items.Item as stored
use Rattle.ig_run_moves.specs.Tables.{IsNamed}
use Rattle.ig_run_tables.specs.Extends.{Extends}

-- x was added at the end of the list, if at all
pub record AddsOnly {X : Type 0} (before after : List X) (x : X) : Type 0 where
  pub extends : Extends before after
  pub only : (y : X) → Contains extends.more y → y ≡ x

-- all instances have their values, and the items before the position, at it and behind it their names in the tables
pub record AreNamed (envs : List (List Value)) (keys : List InstanceKey) (before at behind : List stored.Item) : Type 0 where
  pub values : HaveValues envs keys
  pub done : (x : stored.Item) → Contains before x → IsNamed envs keys x
  pub here : (x : stored.Item) → Contains at x → IsNamed envs keys x
  pub later : (x : stored.Item) → Contains behind x → IsNamed envs keys x
