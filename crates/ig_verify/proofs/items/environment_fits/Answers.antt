use Rattle.std.proofs.Common.{◌∙◌}
use Rattle.std.proofs.lemmas.Bool.{false≢true}
use Rattle.ig_verify.specs.Code.{shown}
use Rattle.ig_verify.proofs.Fitting.{fits_by, fitting_has}
use Rattle.ig_verify.proofs.items.environment_fits.Goals as goal

pub returns-in_default : goal.returns-in_default
returns-in_default c =
    let well = c.nonterminals-number.ensures.well_kinded in (
      λ e. absurd (false≢true e),
      λ f. absurd ((c.in_default.ensures c.args.core.now well c.requires) f.kinds (fitting_has _ _ f)),
    )

pub returns : goal.returns
returns c =
    let well = c.nonterminals-number.ensures.well_kinded in
    fits_by c.alternatives_are_one.ensures c.args.core.now well (shown c.args.it.now)
    c.in-Some.kinds.now c.in-Some-kinds.params.now c.have_kinds-2.result (c.in-Some.ensures c.args.core.now well c.requires)
    c.in-Some-kinds.ensures
    (c.have_kinds.ensures.0 c.if-not-have_kinds.false ∙ c.as_slice.ensures) c.have_kinds-2.ensures
