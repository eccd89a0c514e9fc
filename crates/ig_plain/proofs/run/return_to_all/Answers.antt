use Rattle.std.proofs.Common.{◌-◌, arith}
use Rattle.std.specs.Prelude.{false}
use Rattle.ig_plain.proofs.Additions.{adds_stops}
use Rattle.ig_plain.proofs.Returns.{walk_starts, read_within, read_named, read_calls, read_bare, read_by_nodes, read_less, read_goes, read_stops, walk_ends, records_end}
use Rattle.ig_plain.proofs.run.return_to_all.Goals as goal

pub loop-at-init : goal.loop-at-init
loop-at-init c = walk_starts c.args.context.now.core.now c.args.context.now.text.now c.args.callers.now c.args.head c.args.done c.args.end c.args.context.now.budget c.args.found.now c.args.trail.now c.requires.chain c.requires.known c.requires.once

pub bounds-callers-at : goal.bounds-callers-at
bounds-callers-at c =
    read_within c.args.context.now.core.now c.args.context.now.text.now c.args.callers.now c.args.head c.args.done c.args.end c.args.context.now.budget c.args.found.now c.args.trail.now c.requires.chain c.requires.known c.requires.once
    c.loop-at.found c.loop-at.trail c.loop-at.at (c.loop-at.at - 1) c.loop-at.invariant (omega (arith, c.loop-at-test.true))
    (record { item = record { instance = 0; alternative = 0; dot = 0; env = 0; position = 0 }; number = 0; is_bare = false; next = 0 })

pub return_to-requires-clause-named : goal.return_to-requires-clause-named
return_to-requires-clause-named c =
    read_named c.args.context.now.core.now c.args.context.now.text.now c.args.callers.now c.args.head c.args.done c.args.end c.args.context.now.budget c.args.found.now c.args.trail.now c.requires.chain c.requires.known c.requires.once
    c.loop-at.found c.loop-at.trail c.loop-at.at (c.loop-at.at - 1) c.loop-at.invariant (omega (arith, c.loop-at-test.true)) _

pub return_to-requires-clause-calls : goal.return_to-requires-clause-calls
return_to-requires-clause-calls c =
    read_calls c.args.context.now.core.now c.args.context.now.text.now c.args.callers.now c.args.head c.args.done c.args.end c.args.context.now.budget c.args.found.now c.args.trail.now c.requires.chain c.requires.known c.requires.once
    c.loop-at.found c.loop-at.trail c.loop-at.at (c.loop-at.at - 1) c.loop-at.invariant (omega (arith, c.loop-at-test.true)) _

pub return_to-requires-clause-bare : goal.return_to-requires-clause-bare
return_to-requires-clause-bare c =
    read_bare c.args.context.now.core.now c.args.context.now.text.now c.args.callers.now c.args.head c.args.done c.args.end c.args.context.now.budget c.args.found.now c.args.trail.now c.requires.chain c.requires.known c.requires.once
    c.loop-at.found c.loop-at.trail c.loop-at.at (c.loop-at.at - 1) c.loop-at.invariant (omega (arith, c.loop-at-test.true)) _

pub return_to-requires-clause-indexed : goal.return_to-requires-clause-indexed
return_to-requires-clause-indexed c = c.loop-at.invariant.ways.indexed c.requires.indexed

pub return_to-requires-clause-by_nodes : goal.return_to-requires-clause-by_nodes
return_to-requires-clause-by_nodes c =
    read_by_nodes c.args.context.now.core.now c.args.context.now.text.now c.args.callers.now c.args.head c.args.done c.args.end c.args.context.now.budget c.args.found.now c.args.trail.now c.requires.chain c.requires.known c.requires.once
    c.loop-at.found c.loop-at.trail c.loop-at.at (c.loop-at.at - 1) c.loop-at.invariant (omega (arith, c.loop-at-test.true)) _ c.requires.indexed c.requires.by_nodes

pub returns-in_err-return_to-clause-adds : goal.returns-in_err-return_to-clause-adds
returns-in_err-return_to-clause-adds c =
    adds_stops c.args.end _ c.args.context.now.budget c.args.found.now c.return_to.new.found c.from_residual.result c.in_err-return_to.field-0.0 c.from_residual.ensures.1
    (read_stops c.args.context.now.core.now c.args.context.now.text.now c.args.callers.now c.args.head c.args.done c.args.end c.args.context.now.budget c.args.found.now c.args.trail.now c.requires.chain c.requires.known c.requires.once
    c.loop-at.found c.loop-at.trail c.loop-at.at (c.loop-at.at - 1) c.loop-at.invariant (omega (arith, c.loop-at-test.true)) _ c.return_to.new.found c.in_err-return_to.field-0.0 c.in_err-return_to.ensures.adds)

pub loop-at-smaller : goal.loop-at-smaller
loop-at-smaller c =
    read_less c.args.context.now.core.now c.args.context.now.text.now c.args.callers.now c.args.head c.args.done c.args.end c.args.context.now.budget c.args.found.now c.args.trail.now c.requires.chain c.requires.known c.requires.once
    c.loop-at.found c.loop-at.trail c.loop-at.at (c.loop-at.at - 1) c.loop-at.invariant (omega (arith, c.loop-at-test.true)) _

pub loop-at-preserved : goal.loop-at-preserved
loop-at-preserved c =
    read_goes c.args.context.now.core.now c.args.context.now.text.now c.args.callers.now c.args.head c.args.done c.args.end c.args.context.now.budget c.args.found.now c.args.trail.now c.requires.chain c.requires.known c.requires.once
    c.loop-at.found c.loop-at.trail c.loop-at.at (c.loop-at.at - 1) c.loop-at.invariant (omega (arith, c.loop-at-test.true)) _
    c.return_to.new.found c.return_to.new.trail c.in_ok-return_to.ensures.adds c.in_ok-return_to.ensures.ways

pub returns-clause-adds : goal.returns-clause-adds
returns-clause-adds c =
    walk_ends c.args.context.now.core.now c.args.context.now.text.now c.args.callers.now c.args.head c.args.done c.args.end c.args.context.now.budget c.args.found.now c.args.trail.now c.requires.chain c.requires.known c.requires.once
    c.loop-at.found c.loop-at.trail c.loop-at.at c.loop-at.invariant (omega (arith, c.loop-at-test.false))

pub returns-clause-ways : goal.returns-clause-ways
returns-clause-ways c =
    records_end c.args.context.now.core.now c.args.context.now.text.now c.args.callers.now c.args.head c.args.done c.args.end c.args.context.now.budget c.args.found.now c.args.trail.now c.requires.chain c.requires.known c.requires.once
    c.loop-at.found c.loop-at.trail c.loop-at.at c.loop-at.invariant (omega (arith, c.loop-at-test.false))
