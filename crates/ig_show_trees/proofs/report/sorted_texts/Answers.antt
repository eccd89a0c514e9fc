use Rattle.ig_show_trees.proofs.SortedTexts.{are_texts}
use Rattle.ig_show_trees.proofs.report.sorted_texts.Goals as goal

pub returns : goal.returns
returns c =
    are_texts c.args.patterns.now c.in_ok-texts.texts.items c.sort_unstable.new.self.items c.dedup.new.self.items c.in_ok-texts.ensures
    c.sort_unstable.ensures.permutation c.sort_unstable.ensures.sorted c.dedup.ensures.filtered
