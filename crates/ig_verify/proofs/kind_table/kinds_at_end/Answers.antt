use Rattle.std.proofs.Common.{refl}
use Rattle.std.proofs.lemmas.Option.{slice_get_read}
use Rattle.ig_verify.proofs.KindTable.{further}
use Rattle.ig_verify.proofs.kind_table.kinds_at_end.Goals as goal

pub loop-dot-preserved : goal.loop-dot-preserved
loop-dot-preserved c =
    further c.names_grow.ensures c.names_are_at_dots.ensures c.args.nonterminal.now c.args.alternative.now c.as_slice-steps.result.now
    c.loop-dot.dot c.in_ok-number.field-0 c.index-steps-dot.result c.loop-dot.kinds c.as_slice.result.now c.push_bound.new.kinds
    _ c.args.names.now c.in-Some.visible.now
    c.as_slice-steps.ensures
    (slice_get_read c.as_slice-steps.result.now _ c.loop-dot.dot c.index-steps-dot.result refl c.loop-dot-test.true c.index-steps-dot.is)
    c.in_ok-number.ensures.number c.requires c.in-Some.ensures c.as_slice.ensures c.in_ok-push_bound.ensures
    c.in-Some-kind_bound.ensures c.loop-dot.invariant
