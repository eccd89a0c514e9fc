use Rattle.std.proofs.Common.{refl, ◌∙◌}
use Rattle.ig_heights.proofs.Using.{added}
use Rattle.ig_heights.proofs.uses.Uses.add.Goals as goal

pub returns : goal.returns
returns c =
    added c.args.rule c.args.self.now _ c.index.result.now c.index-2.result.now _ c.requires c.index.ensures c.index-2.ensures c.in_ok-push.ensures.items
    (c.in-Ok.ensures.1 ∙ c.len.ensures ∙ c.push.new.self.ok.0) refl
