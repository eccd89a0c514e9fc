use Rattle.std.proofs.Common.{arith, sym, ◌∙◌}
use Rattle.std.proofs.lemmas.Bool.{leb-true}
use Rattle.ig_heights.proofs.Firing.{fires_then}
use Rattle.ig_heights.proofs.work.Work.fires.Goals.{then-index-self, else-index-self}
use Rattle.ig_heights.proofs.work.Work.fires.Goals as goal

pub returns-then-index-self-2 : goal.returns-then-index-self-2
returns-then-index-self-2 c =
    elim c.if-index-self.branch [
      | then-index-self w ↦
          fires_then c.args.nodes _ _ _ c.args.rule c.args.self.now _ c.requires.fits c.index.ensures w.if-index-self.true
          w.index-then-index-self.ensures w.value-is c.if-index-self-2.true c.index-then-index-self-2.ensures
      | else-index-self w ↦
          let low = leb-true c.index.result.now c.args.self.now.height (sym w.value-is ∙ c.if-index-self-2.true) in
          absurd (omega (arith, low, w.if-index-self.false))
    ]
