use Rattle.std.proofs.Common.{refl}
use Rattle.ig_turns.specs.Reads.{stored_job}
use Rattle.ig_command_endings.specs.Change.{telling}
use Rattle.ig_tool.proofs.Kept.{is_within, width_is}
use Rattle.ig_tool.proofs.Finding.{grammar_refused, loads_named, stops_passed}
use Rattle.ig_tool.proofs.Recorded.{first, only_both, second}
use Rattle.ig_tool.proofs.loading.load_job.Goals as goal

pub returns-in_err-at-clause-answer : goal.returns-in_err-at-clause-answer
returns-in_err-at-clause-answer g c = λ told agree.
    stops_passed (telling told (g.F.Shelf.state c.args.shelf.now)) (telling told (g.F.Shelf.state c.find_grammar.new.shelf))
    (stored_job c.args.names.now) c.find_grammar.new.kept.items c.as_str.result.now c.from_residual.result c.in_err-at.field-0.0
    c.as_str.ensures.value c.from_residual.ensures.1 c.in_err-at.ensures.counted (c.in_err-at.ensures.answer told agree)

pub returns-in-Refused-clause-answer : goal.returns-in-Refused-clause-answer
returns-in-Refused-clause-answer g c = λ told agree.
    grammar_refused (telling told (g.F.Shelf.state c.args.shelf.now)) (telling told (g.F.Shelf.state c.find_grammar.new.shelf))
    (stored_job c.args.names.now) c.find_grammar.new.kept.items c.in-Refused.status c.in-Refused.line c.as_str.result.now
    c.as_str.ensures.value c.in_ok-at.ensures.counted (rw c.in-Refused.is at c.in_ok-at.ensures.answer told agree)

pub returns-in-At-clause-answer : goal.returns-in-At-clause-answer
returns-in-At-clause-answer g c = λ told agree.
    let old = g.F.Shelf.state c.args.shelf.now in
    let mid = g.F.Shelf.state c.find_grammar.new.shelf in
    let new = g.F.Shelf.state c.find_input.new.shelf in
    let early = first old mid new c.in_ok-at.ensures.fetches c.find_input.ensures.fetches told agree in
    let late = second old mid new c.in_ok-at.ensures.fetches c.find_input.ensures.fetches told agree in
    let found = rw c.in-At.is at c.in_ok-at.ensures.answer told early in
    loads_named (telling told old) (telling told mid) (telling told new)
    (stored_job c.args.names.now) c.find_grammar.new.kept.items c.in-At.at found.0 c.in_ok-at.ensures.counted
    c.find_input.ensures.counted (λ name. refl) found.1.0 c.as_str.result.now c.as_str.ensures.value found.1.1 found.1.2
    c.width_at-tabs.result
    (width_is c.find_grammar.new.kept.items c.as_slice.result.now found.1.0 c.in-At.at c.width_at-tabs.result c.as_slice.ensures.value
    found.1.2 c.width_at-tabs.ensures.width)
    c.as_str-in-At.result.now c.find_input.result c.as_str-in-At.ensures.value (c.find_input.ensures.answer told late)

pub width_at-tabs-requires : goal.width_at-tabs-requires
width_at-tabs-requires g c =
    let found = rw c.in-At.is at c.in_ok-at.ensures.answer (g.F.Shelf.state c.args.shelf.now).holds c.in_ok-at.ensures.fetches.as_told in
    is_within c.find_grammar.new.kept.items c.as_slice.result.now found.1.0 c.in-At.at c.as_slice.ensures.value found.1.2

pub returns-in-At-clause-fetches : goal.returns-in-At-clause-fetches
returns-in-At-clause-fetches g c = only_both _ _ _ c.in_ok-at.ensures.fetches c.find_input.ensures.fetches
