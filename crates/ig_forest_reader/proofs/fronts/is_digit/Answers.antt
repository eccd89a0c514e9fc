use Rattle.std.proofs.Common.{Bool, MatchBool, subst, sym}
use Rattle.ig_forest_reader.specs.Runs.{IsDigit}
use Rattle.ig_forest_reader.proofs.Reading.{digit_tells}
use Rattle.ig_forest_reader.proofs.fronts.is_digit.Goals as goal

pub returns : goal.returns
returns c =
    subst (λ (b : Bool). MatchBool b (IsDigit c.args.byte) (IsDigit c.args.byte → ⊥)) (sym c.is_ascii_digit.ensures.value)
    (digit_tells c.args.byte)
