use Rattle.std.proofs.Common.{refl, sym, ◌∙◌}
use Rattle.std.proofs.lemmas.Option.{slice_get_read}
use Rattle.ig_expr.specs.View.{expression_of}
use Rattle.ig_expr.specs.Evaluation.{value_of}
use Rattle.ig_run_tables.specs.Compiled.{form_of}
use Rattle.ig_run_tables.proofs.Values.{no_values}
use Rattle.ig_run_tables.proofs.Forms.{made_at}
use Rattle.ig_run_tables.proofs.steps.listed_values.Goals as goal

pub value-requires : goal.value-requires
value-requires c =
    made_at expression_of (form_of c.args.known.now.names.now) c.args.arguments.now c.args.known.now.forms.now c.loop-place.place c.index-arguments-place.result _
    c.requires
    (slice_get_read c.args.arguments.now _ c.loop-place.place c.index-arguments-place.result refl c.loop-place-test.true c.index-arguments-place.is)

pub returns-in-None-clause-none : goal.returns-in-None-clause-none
returns-in-None-clause-none c =
    λ e vs h.
    no_values expression_of (value_of c.args.text.now c.args.known.now.names.now c.args.values.now c.args.here) c.args.arguments.now vs
    c.loop-place.place c.index-arguments-place.result
    (slice_get_read c.args.arguments.now _ c.loop-place.place c.index-arguments-place.result refl c.loop-place-test.true c.index-arguments-place.is)
    (sym c.value.ensures ∙ c.in-None.is) h
