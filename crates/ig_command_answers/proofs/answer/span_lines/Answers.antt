use Rattle.std.proofs.Common.{rules}
use Rattle.ig_command_answers.proofs.answer.span_lines.Goals as goal

pub returns : goal.returns
returns c = search rules
