use Rattle.std.proofs.Common.{◌∷◌, refl, sym, subst, ◌∙◌}
use Rattle.std.specs.Prelude.{string_bytes}
use Rattle.std.specs.Str.{chars}
use Rattle.ig_notation_syntax.specs.Token.{Close}
use Rattle.ig_show.specs.Pieces.{token}
use Rattle.ig_show.specs.Appending.{Adds}
use Rattle.ig_show.specs.Steps.{if_ok, adds, says}
use Rattle.ig_show.proofs.Steps.{call_shown}
use Rattle.ig_show.proofs.expressions.push_call.Goals as goal

pub returns : goal.returns
unfolding chars
returns c =
    if_ok c.push_text.result c.push_text.ensures
    (λ h.
    subst (Adds (string_bytes c.args.out.now) (string_bytes c.push_text.new.out)) (call_shown c.args.name.now c.args.arguments.now (sym c.is_empty.ensures ∙ c.if-is_empty.false))
    (adds c.in_ok-push_head.ensures (adds c.in_ok-push_expressions.ensures (says (λ ps. token Close ∷ ps) h (λ _. refl)))))
