use Rattle.std.proofs.lemmas.Str.{IsUtf8-string_bytes}
use Rattle.ig_show.proofs.Steps.{written}
use Rattle.ig_show.proofs.grammar.show_expression.Goals as goal

pub returns : goal.returns
returns c =
    rw c.into_bytes.ensures.value (written c.new-out.ensures.bytes (IsUtf8-string_bytes c.push_expression.new.out) c.in_ok-push_expression.ensures)
