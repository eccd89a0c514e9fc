use Rattle.std.proofs.Common.{◌≡◌, [], ◌∷◌, sym, ◌∙◌, subst}
use Rattle.ig_analyse.specs.Search.{StayInside, MarkFound}
use Rattle.ig_analyse.specs.Rows.{rows_of}
use Rattle.ig_analyse.specs.declared.edges.Leading.TheVariants.{Any}
use Rattle.ig_analyse.proofs.Calling.{stay, reached_marks}
use Rattle.ig_analyse.proofs.marks.reached.Goals as goal

pub found_from-requires-clause-inside : goal.found_from-requires-clause-inside
found_from-requires-clause-inside c =
    let is : c.as_slice.result.now ≡ rows_of Any [] c.args.core.now = c.as_slice.ensures.value ∙ c.in_ok-rows.ensures in
    subst StayInside (sym is) (stay c.args.core.now Any [] c.nonterminals-well_kinded.ensures.well_kinded (λ steps m among. among))

pub returns : goal.returns
returns c =
    let is : c.as_slice.result.now ≡ rows_of Any [] c.args.core.now = c.as_slice.ensures.value ∙ c.in_ok-rows.ensures in
    reached_marks c.args.core.now c.in_ok-marks.marks.items
    (subst (λ z. MarkFound z (0 ∷ []) c.in_ok-marks.marks.items) is c.in_ok-marks.ensures)
