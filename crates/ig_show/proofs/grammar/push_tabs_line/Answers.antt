use Rattle.std.proofs.Common.{◌∷◌, refl, rules}
use Rattle.std.specs.Str.{chars}
use Rattle.ig_notation_syntax.specs.Token.{Semicolon, Tabs}
use Rattle.ig_show.specs.Pieces.{token, blank, line_end}
use Rattle.ig_show.specs.Signs.{integer_pieces}
use Rattle.ig_show.specs.Steps.{if_ok, adds, says}
use Rattle.ig_show.proofs.Steps.{shown_as}
use Rattle.ig_show.proofs.grammar.push_tabs_line.Goals as goal

pub returns : goal.returns
unfolding chars
returns c =
    if_ok c.push_text-2.result c.push_text-2.ensures
    (λ h. adds (says (λ ps. token Tabs ∷ blank ∷ ps) c.in_ok-push_text.ensures (λ _. refl))
    (adds (shown_as integer_pieces {y = c.args.width} (search rules) c.in_ok-push_integer.ensures)
    (says (λ ps. token Semicolon ∷ line_end ∷ ps) h (λ _. refl))))
