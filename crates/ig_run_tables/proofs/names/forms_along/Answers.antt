use Rattle.std.proofs.Common.{map, refl, ap, ◌∙◌, arith}
use Rattle.std.proofs.lemmas.List.{length-map}
use Rattle.std.proofs.lemmas.Option.{slice_get-map, slice_get_read}
use Rattle.std.specs.Prelude.{option_map}
use Rattle.ig_item.specs.View.{step_of}
use Rattle.ig_run_tables.proofs.Forms.{forms_pushed, forms_stop, forms_all}
use Rattle.ig_run_tables.proofs.names.forms_along.Goals as goal

pub returns-in_default : goal.returns-in_default
returns-in_default c =
    forms_stop c.args.names.now (map step_of c.args.steps.now) c.loop-dot.dot c.in_ok-number.field-0 c.loop-dot.rows c.in_ok-number.ensures.number
    c.in_default.ensures c.loop-dot.invariant

pub loop-dot-preserved : goal.loop-dot-preserved
loop-dot-preserved c =
    forms_pushed c.args.names.now (map step_of c.args.steps.now) c.loop-dot.dot c.in_ok-number.field-0 c.loop-dot.rows c.push_row.new.rows
    c.in_ok-row.row c.in-Some.visible.now (step_of c.index-steps-dot.result) c.in_ok-number.ensures.number c.in-Some.ensures
    (slice_get-map step_of c.args.steps.now c.loop-dot.dot ∙
    ap (option_map step_of) (slice_get_read c.args.steps.now _ c.loop-dot.dot c.index-steps-dot.result refl c.loop-dot-test.true
    c.index-steps-dot.is))
    c.in_ok-row.ensures c.in_ok-push_row.ensures c.loop-dot.invariant

pub returns : goal.returns
returns c =
    forms_all c.args.names.now (map step_of c.args.steps.now) c.loop-dot.dot c.loop-dot.rows
    (let l = length-map c.args.steps.now step_of in let past = c.loop-dot-test.false in omega (arith, l, past)) c.loop-dot.invariant
