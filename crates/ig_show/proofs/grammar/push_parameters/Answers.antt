use Rattle.ig_show.specs.CanonicalText.{parameter_pieces, separated, joined, comma}
use Rattle.std.proofs.Common.{◌∷◌, refl, sym, subst}
use Rattle.std.specs.Prelude.{string_bytes}
use Rattle.std.specs.Str.{chars}
use Rattle.ig_notation_syntax.specs.Token.{Comma}
use Rattle.ig_show.specs.Pieces.{token, blank}
use Rattle.ig_show.specs.Steps.{adds, says}
use Rattle.ig_show.proofs.Steps.{Ahead, first_written, less_ahead, none_ahead}
use Rattle.ig_show.proofs.grammar.push_parameters.Goals as goal

pub loop-other-init : goal.loop-other-init
loop-other-init c =
    subst (λ z. Ahead (string_bytes c.args.out.now) (string_bytes c.push_parameter.new.out) (joined comma parameter_pieces z) (separated comma parameter_pieces c.in-Some.others.now)) (sym c.in-Some.ensures.cases.0)
    (first_written (separated comma parameter_pieces c.in-Some.others.now) c.in_ok-push_parameter.ensures)

pub loop-other-preserved : goal.loop-other-preserved
unfolding chars
loop-other-preserved c =
    less_ahead (λ z. separated comma parameter_pieces z) c.in-Some.others.now c.loop-other.other-index c.other-item.result c.other-item.result c.other-item.is c.loop-other-test.true
    c.loop-other.invariant (adds (says (λ ps. token Comma ∷ blank ∷ ps) c.in_ok-push_text.ensures (λ _. refl)) c.in_ok-push_parameter-2.ensures) (λ _. refl)

pub returns : goal.returns
returns c =
    none_ahead (λ z. separated comma parameter_pieces z) c.in-Some.others.now c.loop-other.other-index c.loop-other-test.false (λ _. refl) c.loop-other.invariant
