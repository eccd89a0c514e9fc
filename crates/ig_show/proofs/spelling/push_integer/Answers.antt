use Rattle.std.proofs.Common.{◌∙◌, ap, w64}
use Rattle.std.specs.Fmt.{signed_decimal}
use Rattle.std.proofs.lemmas.Str.{chars-IsAscii}
use Rattle.std.proofs.lemmas.Int.{to_z-of_z}
use Rattle.ig_show.specs.Signs.{integer_pieces}
use Rattle.ig_show.specs.Steps.{if_ok, says}
use Rattle.ig_show.proofs.NumberSteps.{integer_text}
use Rattle.ig_show.proofs.spelling.push_integer.Goals as goal

pub returns : goal.returns
returns c =
    let same = chars-IsAscii c.format.result.now c.format.ensures.ascii ∙ c.format.ensures.text ∙ ap signed_decimal (to_z-of_z w64 c.args.number c.ranges.number) in
    if_ok c.push_text.result c.push_text.ensures
    (λ h. says (integer_pieces c.args.number) h (integer_text c.args.number _ c.ranges.number.sfits same))
