use Rattle.ig_meaning.proofs.Spans.{in_order}
use Rattle.ig_meaning.proofs.laws.spans_are_in_order.Goals as goal

pub returns : goal.returns
returns k = in_order
