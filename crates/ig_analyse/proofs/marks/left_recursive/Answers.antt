use Rattle.std.proofs.Common.{◌≡◌, sym, ◌∙◌, subst}
use Rattle.ig_analyse.specs.Search.{StayInside, MarkOnCycle}
use Rattle.ig_analyse.specs.Rows.{rows_of}
use Rattle.ig_analyse.specs.declared.edges.Leading.TheVariants.{Left}
use Rattle.ig_analyse.proofs.Calling.{stay}
use Rattle.ig_analyse.proofs.Lefts.{left_called, left_marks}
use Rattle.ig_analyse.proofs.marks.left_recursive.Goals as goal

pub on_cycles-requires : goal.on_cycles-requires
on_cycles-requires c =
    let is : c.as_slice.result.now ≡ rows_of Left c.args.nullable.now c.args.core.now = c.as_slice.ensures.value ∙ c.in_ok-rows.ensures in
    subst StayInside (sym is)
    (stay c.args.core.now Left c.args.nullable.now c.nonterminals-well_kinded.ensures.well_kinded (left_called c.args.nullable.now))

pub returns : goal.returns
returns c =
    let is : c.as_slice.result.now ≡ rows_of Left c.args.nullable.now c.args.core.now = c.as_slice.ensures.value ∙ c.in_ok-rows.ensures in
    left_marks c.args.core.now c.args.nullable.now c.requires c.in_ok-marks.marks.items
    (subst (λ z. MarkOnCycle z c.in_ok-marks.marks.items) is c.in_ok-marks.ensures)
