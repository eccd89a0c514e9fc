use Rattle.std.proofs.Common.{ap, sym}
use Rattle.ig_blocks_parts.specs.Setting.{cleared_by}
use Rattle.ig_blocks_parts.specs.ColumnCode.{pair_of}
use Rattle.ig_blocks_parts.proofs.pairs.cleared_by.Goals as goal

pub returns-in-Lacking : goal.returns-in-Lacking
returns-in-Lacking c = ap (λ z. cleared_by (pair_of z)) (sym c.in-Lacking.is)

pub returns-in-Carried : goal.returns-in-Carried
returns-in-Carried c = ap (λ z. cleared_by (pair_of z)) (sym c.in-Carried.is)

pub returns-in-Opened : goal.returns-in-Opened
returns-in-Opened c = ap (λ z. cleared_by (pair_of z)) (sym c.in-Opened.is)

pub returns-in-Cleared : goal.returns-in-Cleared
returns-in-Cleared c = ap (λ z. cleared_by (pair_of z)) (sym c.in-Cleared.is)
