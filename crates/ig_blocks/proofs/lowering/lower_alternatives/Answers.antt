use Rattle.std.proofs.Common.{◌≡◌, IfOk, map, subst, sym}
use Rattle.ig_blocks_parts.specs.Setting.{pair_by}
use Rattle.ig_blocks_parts.specs.Blocks.{alternative_by}
use Rattle.ig_blocks_parts.specs.ColumnCode.{setting_by}
use Rattle.ig_blocks.proofs.lowering.lower_alternatives.Goals as goal

pub returns-then-paired : goal.returns-then-paired
returns-then-paired c =
    subst (λ z. IfOk c.choices.result (λ r. r ≡ map (alternative_by (setting_by c.args.guide.now) (pair_by z)) c.args.alternatives.now)) (sym c.if-paired.true) c.choices.ensures

pub returns-else-paired : goal.returns-else-paired
returns-else-paired c =
    subst (λ z. IfOk c.choices-else-paired.result (λ r. r ≡ map (alternative_by (setting_by c.args.guide.now) (pair_by z)) c.args.alternatives.now)) (sym c.if-paired.false) c.choices-else-paired.ensures
