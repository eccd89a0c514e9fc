use Rattle.ig_heights.proofs.Turns.{pops}
use Rattle.ig_heights.proofs.work.pop.Goals as goal

pub returns : goal.returns
returns c =
    pops c.args.numbers.now.items c.pop.new.self.items c.pop.result _ _ c.args.numbers.now.ok.0 c.pop.new.self.ok.0 c.pop.ensures.items c.pop.ensures.cases
