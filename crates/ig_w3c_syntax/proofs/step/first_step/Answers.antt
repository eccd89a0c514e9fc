use Rattle.std.proofs.Common.{◌≡◌, chars, sym, ap, ◌∙◌, ◌∷◌, arith}
use Rattle.std.proofs.lemmas.Bool.Decides.{nat_tests}
use Rattle.ig_w3c_syntax.proofs.step.first_step.Goals as goal

pub set-requires : goal.set-requires
set-requires c =
    let e : c.args.c ≡ 91 = let t = c.is_bracket.ensures in let u = c.if-is_bracket.true in grind (arith, nat_tests) in record {
      spelled = c.requires.spelled ∙ ap (λ z. z ∷ chars c.args.after.now) e;
      whole = c.requires.whole;
      no_separator = c.in_default.ensures;
    }
