use Rattle.ig_query.proofs.DotSets.{dot_added}
use Rattle.ig_query.proofs.dots.add_dot.Goals as goal

pub returns : goal.returns
returns c = dot_added c.args.dots.now.keys c.insert.new.self.keys c.args.dot c.in_ok-insert.ensures.keys
