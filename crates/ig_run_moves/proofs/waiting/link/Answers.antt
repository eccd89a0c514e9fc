use Rattle.ig_run_moves.proofs.Linking.{linked_is}
use Rattle.ig_run_moves.proofs.waiting.link.Goals as goal

pub returns-then-last-gt0 : goal.returns-then-last-gt0
returns-then-last-gt0 c = linked_is _ _ _ _ c.if-last-gt0.true c.requires.there c.index_mut.ensures.value
