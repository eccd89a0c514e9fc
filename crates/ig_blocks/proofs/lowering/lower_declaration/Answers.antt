use Rattle.ig_blocks_parts.specs.ColumnCode.{setting_by}
use Rattle.ig_blocks.proofs.Declaring.{declaration_is}
use Rattle.ig_blocks.proofs.lowering.lower_declaration.Goals as goal

pub returns : goal.returns
returns c =
    declaration_is (setting_by c.args.guide.now) c.args.shape c.args.decl.now c.has_pair-paired.result c.in_ok-name.name c.in_ok-params.params c.in_ok-levels.levels
    c.has_pair-paired.ensures c.in_ok-name.ensures c.in_ok-params.ensures c.in_ok-levels.ensures
