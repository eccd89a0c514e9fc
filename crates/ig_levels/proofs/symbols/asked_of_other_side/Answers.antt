use Rattle.std.proofs.Common.{ap, arith, w64, ◌<◌}
use Rattle.std.proofs.lemmas.Int.{to_z_pos}
use Rattle.ig_expr.specs.Expression.{Integer}
use Rattle.ig_levels.proofs.symbols.asked_of_other_side.Goals as goal

pub returns : goal.returns
returns c =
    let fits : c.args.bound < 9223372036854775808 = omega (arith, c.ranges.bound) in
    ap Integer (to_z_pos w64 c.args.bound fits)
