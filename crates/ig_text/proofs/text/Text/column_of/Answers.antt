use Rattle.std.proofs.Common.{arith}
use Rattle.ig_text.proofs.StopTable.{column_is}
use Rattle.ig_text.proofs.text.Text.column_of.Goals as goal

pub overflow_add-result : goal.overflow_add-result
overflow_add-result c =
    omega (arith, column_is c.args.self.now c.args.position c.mark-mark.result c.requires c.mark-mark.ensures.mark, c.mark-mark.ensures.few)

pub returns : goal.returns
returns c = column_is c.args.self.now c.args.position c.mark-mark.result c.requires c.mark-mark.ensures.mark
