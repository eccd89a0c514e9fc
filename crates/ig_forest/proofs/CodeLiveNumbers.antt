-- The numbers of the live items.
use Rattle.std.proofs.Common.{◌≡◌, ℕ, ◌<◌, List, true, Some, length, map, slice_get, arith}
use Rattle.std.specs.Cmp.{IsTotalOrder}
use Rattle.std.proofs.lemmas.Cmp.{on_total}
use Rattle.std.proofs.lemmas.List.{length-map}
use Rattle.std.proofs.lemmas.Option.{slice_get_within}
use Rattle.ig_item.specs.declared.items.Item.{Item}
use Rattle.ig_item.specs.declared.items.InstanceKey.{InstanceKey}
use Rattle.ig_forest_live.specs.Marks.{is_live}
use Rattle.ig_forest_live.specs.Rows.{number_cmp, row_of}
use Rattle.ig_forest_live.specs.contracts.rows.ItemRowOrd.TheImpl.Laws as row_laws
use Rattle.ig_forest_live.specs.declared.mark.Mark.{Mark}

-- only an item has a mark
pub marked_within : (marks : List Mark) (k : ℕ) → slice_get (map is_live marks) k ≡ Some true → k < length marks
marked_within marks k e = let w = slice_get_within (map is_live marks) k true e in let l = length-map marks is_live in omega (arith, w, l)

-- their order by rows is total
pub number_total : (items : List Item) (keys : List InstanceKey) (places : List ℕ) → IsTotalOrder (number_cmp items keys places)
number_total items keys places = on_total (row_of items keys places) row_laws.total-law
