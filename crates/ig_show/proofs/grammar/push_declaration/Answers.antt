use Rattle.ig_show.specs.CanonicalText.{head_pieces, levels_pieces}
use Rattle.std.proofs.Common.{◌∷◌, refl}
use Rattle.std.specs.Str.{chars}
use Rattle.ig_notation_syntax.specs.Token as sign
use Rattle.ig_notation_syntax.specs.Token.{Name, Head, Comma, Open, Close}
use Rattle.ig_show.specs.Pieces.{token, blank, line_end}
use Rattle.ig_show.specs.Steps.{if_ok, adds, says}
use Rattle.ig_show.proofs.Steps.{shown_as}
use Rattle.ig_show.proofs.grammar.push_declaration.Goals as goal

pub returns : goal.returns
unfolding chars
returns c = if_ok c.push_text-2.result c.push_text-2.ensures (λ h. adds c.in_ok-push_kind.ensures (adds (shown_as (head_pieces c.args.decl.now.name) c.as_slice.ensures c.in_ok-push_declared.ensures) (adds (says (λ ps. blank ∷ token sign.Equals ∷ blank ∷ ps) c.in_ok-push_text.ensures (λ _. refl)) (adds (shown_as levels_pieces c.as_slice-2.ensures c.in_ok-push_levels.ensures) (says (λ ps. token sign.Semicolon ∷ line_end ∷ ps) h (λ _. refl))))))
