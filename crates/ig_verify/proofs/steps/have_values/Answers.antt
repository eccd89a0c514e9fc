use Rattle.std.proofs.Common.{refl}
use Rattle.std.proofs.lemmas.Option.{slice_get_read}
use Rattle.ig_expr.specs.View.{expression_of}
use Rattle.ig_run_tables.specs.Compiled.{form_of}
use Rattle.ig_verify.proofs.Below.{made_at}
use Rattle.ig_verify.proofs.steps.have_values.Goals as goal

pub value-there-requires : goal.value-there-requires
value-there-requires c =
    made_at expression_of (form_of c.args.known.now.names.now) c.args.arguments.now c.args.known.now.forms.now c.loop-place.place
    c.index-arguments-place.result _ c.requires
    (slice_get_read c.args.arguments.now _ c.loop-place.place c.index-arguments-place.result refl c.loop-place-test.true c.index-arguments-place.is)
