use Rattle.std.proofs.Common.{◌≡◌, IfOk, subst}
use Rattle.ig_blocks_parts.proofs.pairs.outer_column.Goals as goal

pub returns : goal.returns
returns c = subst (λ z. IfOk c.new.result (λ r. r ≡ z)) c.in_ok-outer.ensures c.new.ensures
