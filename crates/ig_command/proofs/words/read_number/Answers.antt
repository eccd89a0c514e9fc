use Rattle.std.proofs.Common.{◌∙◌, sym}
use Rattle.ig_command.proofs.Numbers.{stopped_at}
use Rattle.ig_command.proofs.words.read_number.Goals as goal

pub returns-in-None : goal.returns-in-None
returns-in-None c =
    stopped_at c.digits_grow.ensures c.as_bytes-digit-items.result.now c.args.least c.args.most c.loop-digit.digit-index c.loop-digit.number _ _
    c.loop-digit-test.true (sym c.add_digit.ensures ∙ c.in-None.is) c.loop-digit.invariant.1
