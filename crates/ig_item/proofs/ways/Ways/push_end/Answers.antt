use Rattle.std.proofs.Common.{rules}
use Rattle.ig_item.proofs.ways.Ways.push_end.Goals as goal

pub returns-clause-ok : goal.returns-clause-ok
returns-clause-ok c = search rules
