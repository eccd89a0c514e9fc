use Rattle.ig_analyse.proofs.Telling.{tell}
use Rattle.ig_analyse.proofs.facts.analyse.Goals as goal

pub returns-clause-trees : goal.returns-clause-trees
returns-clause-trees c =
    tell c.args.core.now c.in_ok-facts.facts c.unproductive_have_no_tree.ensures c.others_have_no_empty_tree.ensures c.heights_are_bounded.ensures
    c.in_ok-facts.ensures
