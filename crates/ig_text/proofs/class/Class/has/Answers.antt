use Rattle.std.proofs.Common.{rules}
use Rattle.ig_text.proofs.class.Class.has.Goals as goal

pub returns-in-Ranges : goal.returns-in-Ranges
returns-in-Ranges c = search rules
