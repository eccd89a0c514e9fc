use Rattle.std.specs.Prelude.{flat_map}
use Rattle.std.proofs.lemmas.Str.{IsUtf8-string_bytes}
use Rattle.ig_w3c.specs.Text.{rule_text}
use Rattle.ig_w3c.proofs.Steps.{written, shown}
use Rattle.ig_w3c.proofs.grammar.show_w3c.Goals as goal

pub returns : goal.returns
returns c =
    rw c.into_bytes.ensures.value
    (written c.new-out.ensures.bytes (IsUtf8-string_bytes c.push_rules.new.out)
    (shown (flat_map rule_text) c.as_slice.ensures c.in_ok-push_rules.ensures))
