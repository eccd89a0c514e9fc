use Rattle.ig_heights.proofs.Numbers.{one_more}
use Rattle.ig_heights.proofs.work.Work.next_height.Goals as goal

pub returns : goal.returns
returns c = one_more c.args.self.now.height
