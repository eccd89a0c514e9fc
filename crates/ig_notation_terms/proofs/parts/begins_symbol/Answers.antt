use Rattle.std.proofs.Common.{sym, ◌∙◌}
use Rattle.ig_notation_terms.specs.Readers.{at_token}
use Rattle.ig_notation_terms.proofs.Around.{no_alternative}
use Rattle.ig_notation_terms.proofs.parts.begins_symbol.Goals as goal

pub returns-in-Some-clause-no : goal.returns-in-Some-clause-no
returns-in-Some-clause-no c = λ e. at_token _ c.in-Some.ensures (no_alternative _ (sym c.begins.ensures ∙ e))
