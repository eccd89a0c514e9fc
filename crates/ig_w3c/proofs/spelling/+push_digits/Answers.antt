use Rattle.std.proofs.Common.{◌≤◌, refl, arith}
use Rattle.std.proofs.lemmas.Bool.Decides.{nat_tests}
use Rattle.ig_show.specs.Steps.{if_ok}
use Rattle.ig_w3c.proofs.Steps.{adds_more}
use Rattle.ig_w3c.proofs.spelling.+push_digits.Goals as goal

pub returns : goal.returns
returns t c =
    let k : 16 ≤ c.args.number = let f = c.if-number-lt16.false in grind (arith, nat_tests) in
    if_ok c.push_character-2.result c.push_character-2.ensures
    (λ h. adds_more c.args.number _ _ k refl c.digit-2.ensures c.in_ok-push_digits.ensures h)
