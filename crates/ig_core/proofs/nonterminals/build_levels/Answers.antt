use Rattle.ig_core.specs.Tables.{number_by}
use Rattle.ig_core.proofs.Building.{level_built, level_fits}
use Rattle.ig_core.proofs.nonterminals.build_levels.Goals as goal

pub add_alternatives-requires : goal.add_alternatives-requires
add_alternatives-requires c =
    record {
      few = level_fits (number_by c.args.numbers.now c.args.missing) c.args.shape c.args.number c.loop-level.built.items c.args.levels.now
          c.loop-level.level-index c.level-item.result c.as_slice.result.now c.loop-level.invariant c.loop-level-test.true c.level-item.is c.as_slice.ensures
          c.requires.few;
    }

pub loop-level-preserved : goal.loop-level-preserved
loop-level-preserved c =
    level_built (number_by c.args.numbers.now c.args.missing) c.args.shape c.args.number c.loop-level.built.items c.add_alternatives.new.built.items _
    c.args.levels.now c.loop-level.level-index c.level-item.result c.as_slice.result.now c.loop-level.invariant c.loop-level-test.true c.level-item.is
    c.as_slice.ensures c.in_ok-add_alternatives.ensures
