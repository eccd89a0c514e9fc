use Rattle.ig_ebnf.proofs.CodeOfPass.{few_counted}
use Rattle.ig_ebnf.proofs.grammars.new_levels.Goals as goal

pub returns-clause-few : goal.returns-clause-few
returns-clause-few c =
    few_counted c.as_slice-level-items.result.now c.args.decl.now.levels c.loop-level.level-index c.loop-level.next
    c.as_slice-level-items.ensures
    c.loop-level-test.false c.loop-level.invariant.counted c.loop-level.invariant.fits
