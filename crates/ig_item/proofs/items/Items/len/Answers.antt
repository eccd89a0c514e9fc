use Rattle.std.proofs.Common.{rules}
use Rattle.ig_item.proofs.items.Items.len.Goals as goal

pub returns-clause-number : goal.returns-clause-number
returns-clause-number c = search rules
