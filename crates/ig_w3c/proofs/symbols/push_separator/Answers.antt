use Rattle.ig_show.specs.Steps.{nothing_appended}
use Rattle.ig_w3c.proofs.symbols.push_separator.Goals as goal

pub returns-then-is_first : goal.returns-then-is_first
returns-then-is_first c = rw c.if-is_first.true nothing_appended

pub returns-else-is_first : goal.returns-else-is_first
returns-else-is_first c = rw c.if-is_first.false c.push_text.ensures
