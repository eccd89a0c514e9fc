use Rattle.std.proofs.Common.{rules}
use Rattle.ig_notation_terms.proofs.filters.filter_of.Goals as goal

pub returns-in-NotPreceded : goal.returns-in-NotPreceded
returns-in-NotPreceded c = search rules
