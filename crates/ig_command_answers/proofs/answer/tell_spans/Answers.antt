use Rattle.std.specs.Prelude.{chars}
use Rattle.std.specs.Option.{option_copied}
use Rattle.ig_command_answers.proofs.Telling.{spans_told}
use Rattle.ig_command_answers.proofs.answer.tell_spans.Goals as goal

pub returns : goal.returns
returns c =
    spans_told c.args.checked.now c.args.forest.now (option_copied c.args.name) (chars c.wanted_name.result.now) c.in_ok-found.found
    c.span_lines.result c.wanted_name.ensures c.in_ok-found.ensures c.span_lines.ensures
