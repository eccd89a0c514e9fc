use Rattle.std.proofs.Common.{refl, length, ◌-◌}
use Rattle.ig_notation_syntax.proofs.Reading.{boundary}
use Rattle.ig_notation_syntax.proofs.characters.front.Goals as goal

pub range-requires-clause-end_boundary : goal.range-requires-clause-end_boundary
range-requires-clause-end_boundary c =
    boundary c.args.text.now c.args.rest.now (length c.args.text.now - length c.args.rest.now) c.requires refl
