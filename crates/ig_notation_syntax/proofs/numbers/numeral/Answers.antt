use Rattle.std.proofs.Common.{◌≡◌, ◌∙◌, sym, ap, subst, chars, List, ℕ}
use Rattle.ig_notation_syntax.specs.Scanner.{Next, numeral, number_token}
use Rattle.ig_notation_syntax.specs.Steps.{Gives}
use Rattle.ig_notation_syntax.proofs.LetterSteps.{first_digit, nought_numeral}
use Rattle.ig_notation_syntax.proofs.numbers.numeral.Goals as goal

pub returns-then-c-eq48 : goal.returns-then-c-eq48
returns-then-c-eq48 c =
    let digit = first_digit c.args.text.now c.front.result.now c.args.after.now c.args.c c.requires.begins
    c.front.ensures.text c.front.ensures.parts in
    let same : number_token (chars c.front.result.now) (chars c.args.after.now) ≡ numeral c.args.c (chars c.args.after.now) =
    ap (λ (z : List ℕ). number_token z (chars c.args.after.now)) digit ∙
    sym (nought_numeral c.args.c (chars c.args.after.now) c.if-c-eq48.true) in
    subst (λ (z : Next). Gives z c.number.result) same c.number.ensures
