use Rattle.std.proofs.Common.{slice_index_or}
use Rattle.ig_forest_reader.specs.Runs.{NoItem}
use Rattle.ig_forest_reader.proofs.LinesLeft.{front_tells, empty_stops}
use Rattle.ig_forest_reader.proofs.Leading.{other_byte}
use Rattle.ig_forest_reader.proofs.lists.is_item.Goals as goal

pub returns-in-empty : goal.returns-in-empty
returns-in-empty c = empty_stops NoItem c.args.bytes.now c.in-empty.len_below

pub returns-in-len1-up : goal.returns-in-len1-up
returns-in-len1-up c = front_tells NoItem c.args.bytes.now _ c.in-len1-up.len_at_least (other_byte (slice_index_or c.args.bytes.now 0 0) 105)
