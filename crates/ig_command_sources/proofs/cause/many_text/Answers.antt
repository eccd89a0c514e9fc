use Rattle.std.proofs.Common.{rules}
use Rattle.ig_command_sources.proofs.cause.many_text.Goals as goal

pub returns-in-Nonterminals : goal.returns-in-Nonterminals
returns-in-Nonterminals c = search rules

pub returns-in-Parameters : goal.returns-in-Parameters
returns-in-Parameters c = search rules
