use Rattle.std.proofs.Common.{ap, sym, ◌∙◌}
use Rattle.std.specs.Prelude.{encode_utf8_all}
use Rattle.std.proofs.lemmas.Str.{encodes-chars}
use Rattle.ig_command_jobs.proofs.tasks.show_in_own.Goals as goal

pub returns : goal.returns
returns c =
    sym (encodes-chars c.in_ok-text.text.items c.in_ok-text.ensures.utf8) ∙ ap encode_utf8_all c.in_ok-text.ensures.spelled
