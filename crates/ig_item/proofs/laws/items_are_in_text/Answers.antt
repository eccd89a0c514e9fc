use Rattle.ig_item.proofs.Positions.{in_text}
use Rattle.ig_item.proofs.laws.items_are_in_text.Goals as goal

pub returns : goal.returns
returns c = in_text
