-- The question that is kept as it is asked.
use Rattle.std.specs.Prelude.{ℕ, List, Option, Some, None}
use Rattle.ig_command_endings.specs.declared.status.Status.{Status}
use Rattle.ig_command_jobs.specs.Question.{Question, refused, parses}
use Rattle.ig_command_jobs.specs.declared.ended.Asked.{Asked}

abbrev pub parse_asked : Asked → Question
parse_asked asked = parses asked.parser.now.grammar asked.input.now asked.budget

-- without a parse it is the status and the line themselves
abbrev pub question_of : Option Asked → Status → List ℕ → Question
question_of None s note = refused s note
question_of (Some asked) s note = parse_asked asked
