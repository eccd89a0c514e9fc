use Rattle.std.proofs.Common.{◌∷◌, refl}
use Rattle.std.specs.Str.{chars}
use Rattle.ig_notation_syntax.specs.Token as sign
use Rattle.ig_notation_syntax.specs.Token.{Name, Head}
use Rattle.ig_show.specs.Pieces.{token, blank}
use Rattle.ig_show.specs.Steps.{if_ok, says}
use Rattle.ig_show.proofs.signs.push_operator.Goals as goal

pub returns-in-Add : goal.returns-in-Add
unfolding chars
returns-in-Add c = rw c.in-Add.is (if_ok c.push_text.result c.push_text.ensures (λ h. says (λ ps. blank ∷ token sign.Plus ∷ blank ∷ ps) h (λ _. refl)))

pub returns-in-Sub : goal.returns-in-Sub
unfolding chars
returns-in-Sub c = rw c.in-Sub.is (if_ok c.push_text-in-Sub.result c.push_text-in-Sub.ensures (λ h. says (λ ps. blank ∷ token sign.Minus ∷ blank ∷ ps) h (λ _. refl)))

pub returns-in-Mul : goal.returns-in-Mul
unfolding chars
returns-in-Mul c = rw c.in-Mul.is (if_ok c.push_text-in-Mul.result c.push_text-in-Mul.ensures (λ h. says (λ ps. blank ∷ token sign.Star ∷ blank ∷ ps) h (λ _. refl)))

pub returns-in-Div : goal.returns-in-Div
unfolding chars
returns-in-Div c = rw c.in-Div.is (if_ok c.push_text-in-Div.result c.push_text-in-Div.ensures (λ h. says (λ ps. blank ∷ token sign.Div ∷ blank ∷ ps) h (λ _. refl)))

pub returns-in-Mod : goal.returns-in-Mod
unfolding chars
returns-in-Mod c = rw c.in-Mod.is (if_ok c.push_text-in-Mod.result c.push_text-in-Mod.ensures (λ h. says (λ ps. blank ∷ token sign.Mod ∷ blank ∷ ps) h (λ _. refl)))

pub returns-in-Less : goal.returns-in-Less
unfolding chars
returns-in-Less c = rw c.in-Less.is (if_ok c.push_text-in-Less.result c.push_text-in-Less.ensures (λ h. says (λ ps. blank ∷ token sign.Less ∷ blank ∷ ps) h (λ _. refl)))

pub returns-in-LessEqual : goal.returns-in-LessEqual
unfolding chars
returns-in-LessEqual c = rw c.in-LessEqual.is (if_ok c.push_text-in-LessEqual.result c.push_text-in-LessEqual.ensures (λ h. says (λ ps. blank ∷ token sign.AtMost ∷ blank ∷ ps) h (λ _. refl)))

pub returns-in-Greater : goal.returns-in-Greater
unfolding chars
returns-in-Greater c = rw c.in-Greater.is (if_ok c.push_text-in-Greater.result c.push_text-in-Greater.ensures (λ h. says (λ ps. blank ∷ token sign.Greater ∷ blank ∷ ps) h (λ _. refl)))

pub returns-in-GreaterEqual : goal.returns-in-GreaterEqual
unfolding chars
returns-in-GreaterEqual c = rw c.in-GreaterEqual.is (if_ok c.push_text-in-GreaterEqual.result c.push_text-in-GreaterEqual.ensures (λ h. says (λ ps. blank ∷ token sign.AtLeast ∷ blank ∷ ps) h (λ _. refl)))

pub returns-in-Equal : goal.returns-in-Equal
unfolding chars
returns-in-Equal c = rw c.in-Equal.is (if_ok c.push_text-in-Equal.result c.push_text-in-Equal.ensures (λ h. says (λ ps. blank ∷ token sign.EqualTo ∷ blank ∷ ps) h (λ _. refl)))

pub returns-in-NotEqual : goal.returns-in-NotEqual
unfolding chars
returns-in-NotEqual c = rw c.in-NotEqual.is (if_ok c.push_text-in-NotEqual.result c.push_text-in-NotEqual.ensures (λ h. says (λ ps. blank ∷ token sign.NotEqualTo ∷ blank ∷ ps) h (λ _. refl)))

pub returns-in-And : goal.returns-in-And
unfolding chars
returns-in-And c = rw c.in-And.is (if_ok c.push_text-in-And.result c.push_text-in-And.ensures (λ h. says (λ ps. blank ∷ token sign.And ∷ blank ∷ ps) h (λ _. refl)))

pub returns-in-Or : goal.returns-in-Or
unfolding chars
returns-in-Or c = rw c.in-Or.is (if_ok c.push_text-in-Or.result c.push_text-in-Or.ensures (λ h. says (λ ps. blank ∷ token sign.Or ∷ blank ∷ ps) h (λ _. refl)))
