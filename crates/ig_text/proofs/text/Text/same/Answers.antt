use Rattle.std.proofs.Common.{rules}
use Rattle.ig_text.proofs.text.Text.same.Goals as goal

pub returns-in-Some-Some : goal.returns-in-Some-Some
returns-in-Some-Some c = search rules
