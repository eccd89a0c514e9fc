use Rattle.std.specs.Prelude.{codes}
use Rattle.std.proofs.Common.{◌∷◌, refl}
use Rattle.std.specs.Str.{chars}
use Rattle.ig_notation_syntax.specs.Token.{Head}
use Rattle.ig_show.specs.Pieces.{token}
use Rattle.ig_show.specs.Steps.{if_ok, says}
use Rattle.ig_show.proofs.signs.push_function.Goals as goal

pub returns-in-Begin : goal.returns-in-Begin
unfolding chars
returns-in-Begin c = rw c.in-Begin.is (if_ok c.push_text.result c.push_text.ensures (λ h. says (λ ps. token (Head (codes "begin")) ∷ ps) h (λ _. refl)))

pub returns-in-End : goal.returns-in-End
unfolding chars
returns-in-End c = rw c.in-End.is (if_ok c.push_text-in-End.result c.push_text-in-End.ensures (λ h. says (λ ps. token (Head (codes "end")) ∷ ps) h (λ _. refl)))

pub returns-in-Size : goal.returns-in-Size
unfolding chars
returns-in-Size c = rw c.in-Size.is (if_ok c.push_text-in-Size.result c.push_text-in-Size.ensures (λ h. says (λ ps. token (Head (codes "size")) ∷ ps) h (λ _. refl)))

pub returns-in-Column : goal.returns-in-Column
unfolding chars
returns-in-Column c = rw c.in-Column.is (if_ok c.push_text-in-Column.result c.push_text-in-Column.ensures (λ h. says (λ ps. token (Head (codes "column")) ∷ ps) h (λ _. refl)))

pub returns-in-Line : goal.returns-in-Line
unfolding chars
returns-in-Line c = rw c.in-Line.is (if_ok c.push_text-in-Line.result c.push_text-in-Line.ensures (λ h. says (λ ps. token (Head (codes "line")) ∷ ps) h (λ _. refl)))

pub returns-in-Number : goal.returns-in-Number
unfolding chars
returns-in-Number c = rw c.in-Number.is (if_ok c.push_text-in-Number.result c.push_text-in-Number.ensures (λ h. says (λ ps. token (Head (codes "number")) ∷ ps) h (λ _. refl)))
