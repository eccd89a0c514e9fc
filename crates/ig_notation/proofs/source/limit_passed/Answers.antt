use Rattle.std.proofs.lemmas.Bool.Decides.{not_from_Decides}
use Rattle.ig_notation.specs.Outcome.{great_number, many_brackets}
use Rattle.ig_notation.proofs.source.limit_passed.Goals as goal

pub returns-then-not-numbers_fit : goal.returns-then-not-numbers_fit
returns-then-not-numbers_fit c = great_number (not_from_Decides _ c.numbers_fit.ensures c.if-not-numbers_fit.true)

pub returns-then-not-is_shallow : goal.returns-then-not-is_shallow
returns-then-not-is_shallow c =
    many_brackets (c.numbers_fit.ensures.0 c.if-not-numbers_fit.false) (not_from_Decides _ c.is_shallow.ensures c.if-not-is_shallow.true)

pub returns : goal.returns
returns c = record { numbers = c.numbers_fit.ensures.0 c.if-not-numbers_fit.false; shallow = c.is_shallow.ensures.0 c.if-not-is_shallow.false }
