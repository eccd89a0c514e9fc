use Rattle.std.proofs.Common.{rules}
use Rattle.ig_notation_syntax.proofs.classes.behind_character.Goals as goal

pub returns-then-first-c : goal.returns-then-first-c
returns-then-first-c c = search rules

pub returns-else-first-c : goal.returns-else-first-c
returns-else-first-c c = search rules
