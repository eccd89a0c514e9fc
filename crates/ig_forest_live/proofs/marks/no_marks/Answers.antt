use Rattle.ig_forest_live.proofs.CodeWalk.{none_marked}
use Rattle.ig_forest_live.proofs.marks.no_marks.Goals as goal

pub returns-clause-found : goal.returns-clause-found
returns-clause-found c = none_marked _ c.args.count (c.in_ok-marks.ensures.items_if_clones_equal (λ y e. e)) c.in_ok-found.ensures.items
