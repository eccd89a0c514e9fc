use Rattle.std.proofs.Common.{refl, subst, sym}
use Rattle.ig_text.proofs.Options.{passed_on}
use Rattle.ig_command_endings.specs.Change.{change, telling}
use Rattle.ig_command_jobs.specs.Jobs.{stored_job}
use Rattle.ig_command.specs.Commands.{stored_source}
use Rattle.ig_tool.specs.Decisions.{Decides}
use Rattle.ig_tool.proofs.Recorded.{first, only_both, second}
use Rattle.ig_tool.proofs.top_call.on_input.Goals as goal
use Rattle.ig_tool.proofs.Deciding.{grammar_of_job, decides_at_grammar, decides_at_dots, decides_job, loaded_is_buildable, still_unchanged}

pub returns-in_err-checked-clause-answer : goal.returns-in_err-checked-clause-answer
returns-in_err-checked-clause-answer g c = λ words command told agree.
    subst (Decides words _) (sym (passed_on c.from_residual.result c.in_err-checked.field-0.0 c.from_residual.ensures.1))
    (decides_at_grammar words _ _ (stored_source c.args.files.grammar) c.in_err-checked.field-0.0 command
    (grammar_of_job (stored_job c.args.job) (stored_source c.args.files.grammar) c.args.files.input.now c.args.budget)
    c.in_err-checked.ensures.counted (c.in_err-checked.ensures.answer told agree))

pub parser_of-requires-clause-as_it_is : goal.parser_of-requires-clause-as_it_is
parser_of-requires-clause-as_it_is g c = (c.in_ok-checked.ensures.answer (g.F.Shelf.state c.args.shelf.now).holds c.in_ok-checked.ensures.fetches.as_told).1.2.as_it_is

pub parser_of-requires-clause-buildable : goal.parser_of-requires-clause-buildable
parser_of-requires-clause-buildable g c =
    let told = (g.F.Shelf.state c.args.shelf.now).holds in
    let shelf = change (telling told (g.F.Shelf.state c.args.shelf.now)) (telling told (g.F.Shelf.state c.load_grammar.new.shelf)) in
    loaded_is_buildable c.read_grammars_are_buildable.ensures shelf (stored_source c.args.files.grammar) c.in_ok-checked.checked
    (c.in_ok-checked.ensures.answer told c.in_ok-checked.ensures.fetches.as_told)

pub returns-in_err-parser-clause-answer : goal.returns-in_err-parser-clause-answer
returns-in_err-parser-clause-answer g c = λ words command told agree.
    subst (Decides words _) (sym (passed_on c.from_residual-in_err-parser.result c.in_err-parser.field-0.0 c.from_residual-in_err-parser.ensures.1))
    (decides_at_dots words _ (stored_source c.args.files.grammar) c.in_ok-checked.checked c.in_ok-checked.ensures.counted (c.in_ok-checked.ensures.answer told agree)
    _ c.in_err-parser.field-0.0 command
    (grammar_of_job (stored_job c.args.job) (stored_source c.args.files.grammar) c.args.files.input.now c.args.budget) c.in_err-parser.ensures)

pub returns-clause-answer : goal.returns-clause-answer
returns-clause-answer g c = λ words command told agree.
    let old = g.F.Shelf.state c.args.shelf.now in
    let mid = g.F.Shelf.state c.load_grammar.new.shelf in
    let new = g.F.Shelf.state c.run.new.shelf in
    let early = first old mid new c.in_ok-checked.ensures.fetches c.run.ensures.fetches told agree in
    let late = second old mid new c.in_ok-checked.ensures.fetches c.run.ensures.fetches told agree in
    decides_job words (telling told old) (telling told mid) (telling told new) (stored_job c.args.job) (stored_source c.args.files.grammar) c.args.files.input.now c.args.budget c.in_ok-checked.checked
    c.in_ok-parser.parser c.run.result command c.in_ok-checked.ensures.counted (λ name. refl) (c.in_ok-checked.ensures.answer told early)
    c.in_ok-parser.ensures c.run.ensures.counted (c.run.ensures.answer told late)

pub run-requires : goal.run-requires
run-requires g c =
    record { as_it_is = still_unchanged c.in_ok-checked.checked.grammar c.in_ok-parser.parser c.in_ok-parser.ensures.0 }

pub returns-in_err-checked-clause-fetches : goal.returns-in_err-checked-clause-fetches
returns-in_err-checked-clause-fetches g c = c.in_err-checked.ensures.fetches

pub returns-in_err-parser-clause-fetches : goal.returns-in_err-parser-clause-fetches
returns-in_err-parser-clause-fetches g c = c.in_ok-checked.ensures.fetches

pub returns-clause-fetches : goal.returns-clause-fetches
returns-clause-fetches g c = only_both _ _ _ c.in_ok-checked.ensures.fetches c.run.ensures.fetches
