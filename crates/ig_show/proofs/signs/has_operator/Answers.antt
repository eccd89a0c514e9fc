use Rattle.std.proofs.Common.{refl}
use Rattle.ig_show.proofs.signs.has_operator.Goals as goal

pub returns-in-Int : goal.returns-in-Int
returns-in-Int c = rw c.in-Int.is refl

pub returns-in-Bool : goal.returns-in-Bool
returns-in-Bool c = rw c.in-Bool.is refl

pub returns-in-Here : goal.returns-in-Here
returns-in-Here c = rw c.in-Here.is refl

pub returns-in-Var : goal.returns-in-Var
returns-in-Var c = rw c.in-Var.is refl

pub returns-in-Not : goal.returns-in-Not
returns-in-Not c = rw c.in-Not.is refl

pub returns-in-Neg : goal.returns-in-Neg
returns-in-Neg c = rw c.in-Neg.is refl

pub returns-in-Binary : goal.returns-in-Binary
returns-in-Binary c = rw c.in-Binary.is refl

pub returns-in-Of : goal.returns-in-Of
returns-in-Of c = rw c.in-Of.is refl

pub returns-in-Same : goal.returns-in-Same
returns-in-Same c = rw c.in-Same.is refl

pub returns-in-Spells : goal.returns-in-Spells
returns-in-Spells c = rw c.in-Spells.is refl

pub returns-in-Outer : goal.returns-in-Outer
returns-in-Outer c = rw c.in-Outer.is refl

pub returns-in-Inside : goal.returns-in-Inside
returns-in-Inside c = rw c.in-Inside.is refl

pub returns-in-FreeBefore : goal.returns-in-FreeBefore
returns-in-FreeBefore c = rw c.in-FreeBefore.is refl

pub returns-in-FreeAfter : goal.returns-in-FreeAfter
returns-in-FreeAfter c = rw c.in-FreeAfter.is refl
