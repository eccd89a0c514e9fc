use Rattle.ig_grammar.specs.declared.place.Shape.TheVariants.{Rule}
use Rattle.ig_blocks_parts.specs.ColumnCode.{setting_by}
use Rattle.ig_blocks.proofs.Declaring.{declaration_more}
use Rattle.ig_blocks.proofs.lowering.lower_declarations.Goals as goal

pub loop-index-preserved : goal.loop-index-preserved
loop-index-preserved c =
    declaration_more (setting_by c.args.guide.now) c.args.checked.now.shapes c.args.decls.now c.requires.beside c.loop-index.all c.push_declaration.new.all _ c.loop-index.index
    c.index-decls-index.result Rule c.shape_behind-shape.result c.in_ok-lower_declaration.field-0 c.loop-index-test.true c.index-decls-index.is c.shape_behind-shape.ensures
    c.loop-index.invariant c.in_ok-push_declaration.ensures c.in_ok-lower_declaration.ensures
