use Rattle.std.proofs.Common.{map, subst}
use Rattle.ig_item.specs.Tables.{Tables}
use Rattle.ig_forest.specs.CodeLiveItems.{AreFound}
use Rattle.ig_forest_live.specs.declared.found.Found.{Found}
use Rattle.ig_forest.proofs.CodeLiveItems.{are_found}
use Rattle.ig_forest.proofs.builder.from_recorded.Goals as goal

pub from_found-requires-clause-found : goal.from_found-requires-clause-found
from_found-requires-clause-found c =
    let found : Found = record { items = c.items.result; keys = c.instance_keys.result; places = c.as_slice.result } in
    subst (λ (z : Tables). AreFound z (map (λ l. l.now) c.as_slice-lists.result.now) found) c.items-items.ensures.items
    (are_found c.items-items.result.now found c.as_slice-lists.result.now c.in_ok-list_table.list_table.items c.in_ok-places.places.items
    c.items.ensures.items c.items.ensures.tables c.instance_keys.ensures.instances c.instance_keys.ensures.values c.as_slice-lists.ensures.value
    c.in_ok-list_table.ensures.lists c.as_slice.ensures.value c.in_ok-places.ensures)
