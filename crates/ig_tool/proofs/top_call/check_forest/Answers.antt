use Rattle.std.proofs.Common.{subst, sym}
use Rattle.ig_text.proofs.Options.{passed_on}
use Rattle.ig_command_endings.specs.Change.{change, telling}
use Rattle.ig_tool.specs.Decisions.{RunsCheck}
use Rattle.ig_tool.proofs.top_call.check_forest.Goals as goal
use Rattle.ig_tool.proofs.Deciding.{checks_at_file, checks_text}

pub returns-in_err-bytes-clause-answer : goal.returns-in_err-bytes-clause-answer
returns-in_err-bytes-clause-answer g c = λ told agree.
    let shelf = change (telling told (g.F.Shelf.state c.args.shelf.now)) (telling told (g.F.Shelf.state c.load_forest.new.shelf)) in
    subst (RunsCheck c.args.parser.now c.args.input.now shelf c.args.name.now)
    (sym (passed_on c.from_residual.result c.in_err-bytes.field-0.0 c.from_residual.ensures.1))
    (checks_at_file c.args.parser.now c.args.input.now shelf c.args.name.now c.in_err-bytes.field-0.0
    (c.in_err-bytes.ensures.answer told agree))

pub verify_text-requires : goal.verify_text-requires
verify_text-requires g c = record { taken = c.requires.taken; few = (c.in_ok-bytes.ensures.answer (g.F.Shelf.state c.args.shelf.now).holds c.in_ok-bytes.ensures.fetches.as_told).2 }

pub returns-clause-answer : goal.returns-clause-answer
returns-clause-answer g c = λ told agree.
    let shelf = change (telling told (g.F.Shelf.state c.args.shelf.now)) (telling told (g.F.Shelf.state c.load_forest.new.shelf)) in
    checks_text c.args.parser.now c.args.input.now shelf c.args.name.now c.in_ok-bytes.bytes c.verify_text.result
    (c.in_ok-bytes.ensures.answer told agree) c.verify_text.ensures
