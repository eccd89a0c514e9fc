use Rattle.std.proofs.Common.{◌≤◌, ◌∙◌, ap, arith, length}
use Rattle.ig_text.specs.Input.{Input}
use Rattle.ig_text.specs.LineTable.{line_starts}
use Rattle.ig_text.proofs.LineTable.{starts_rise, line_is, line_le}
use Rattle.ig_text.proofs.text.Text.line.Goals as goal

pub count_up_to-requires : goal.count_up_to-requires
count_up_to-requires c =
    starts_rise c.self.inside.characters.items c.as_slice.result.now
    (c.as_slice.ensures.value ∙ c.self.invariant.indexed.lines)

pub overflow_cast-result : goal.overflow_cast-result
overflow_cast-result c =
    let within : c.args.position ≤ length c.args.self.now.characters = omega arith in
    let small =
    line_le c.args.self.now c.as_slice.result.now c.args.position c.count_up_to.result
    (c.as_slice.ensures.value ∙ c.self.invariant.indexed.lines ∙ ap (λ (t : Input). line_starts t.characters) c.self.view_is) within c.count_up_to.ensures in
    omega (arith, small)

pub returns : goal.returns
returns c =
    line_is c.args.self.now c.as_slice.result.now c.args.position c.count_up_to.result
    (c.as_slice.ensures.value ∙ c.self.invariant.indexed.lines ∙ ap (λ (t : Input). line_starts t.characters) c.self.view_is) (omega arith)
    c.count_up_to.ensures
