use Rattle.std.proofs.Common.{[]}
use Rattle.std.proofs.lemmas.Str.{IsUtf8-string_bytes}
use Rattle.ig_show.specs.CanonicalText.{separated, declaration_pieces}
use Rattle.ig_show.specs.Steps.{adds}
use Rattle.ig_show.proofs.Steps.{written, shown_as}
use Rattle.ig_show.proofs.grammar.show_grammar.Goals as goal

pub returns : goal.returns
returns c =
    rw c.into_bytes.ensures.value
    (written c.new-out.ensures.bytes (IsUtf8-string_bytes c.push_declarations.new.out)
    (adds c.in_ok-push_start.ensures
    (adds c.in_ok-push_tabs.ensures
    (shown_as (separated [] declaration_pieces) c.as_slice.ensures c.in_ok-push_declarations.ensures))))
