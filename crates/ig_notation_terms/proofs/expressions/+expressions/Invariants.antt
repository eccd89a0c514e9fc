use Rattle.std.proofs.Common.{◌+◌, ◌-◌, ◌*◌, length}
use Rattle.ig_notation_terms.proofs.expressions.+expressions.Given as goal

-- how many tokens are left, and how deep the function stands among those that read from the same token

abbrev pub decreases-read_term : goal.decreases-read_term
decreases-read_term l = 8 * (length l.tokens.now - l.at) + 0

abbrev pub decreases-read_operation : goal.decreases-read_operation
decreases-read_operation l = 8 * (length l.tokens.now - l.at) + 1

abbrev pub decreases-read_expression : goal.decreases-read_expression
decreases-read_expression l = 8 * (length l.tokens.now - l.at) + 2

abbrev pub decreases-read_closed : goal.decreases-read_closed
decreases-read_closed l = 8 * (length l.tokens.now - l.at) + 3

abbrev pub decreases-read_same : goal.decreases-read_same
decreases-read_same l = 8 * (length l.tokens.now - l.at) + 3

abbrev pub decreases-read_spells : goal.decreases-read_spells
decreases-read_spells l = 8 * (length l.tokens.now - l.at) + 3

abbrev pub decreases-read_function : goal.decreases-read_function
decreases-read_function l = 8 * (length l.tokens.now - l.at) + 4
