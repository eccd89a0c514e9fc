use Rattle.std.proofs.Common.{subst, sym}
use Rattle.ig_text.proofs.Options.{passed_on}
use Rattle.ig_command_endings.specs.Change.{change, telling}
use Rattle.ig_command.specs.Commands.{stored_source}
use Rattle.ig_tool.specs.Decisions.{Decides}
use Rattle.ig_tool.proofs.top_call.on_grammar.Goals as goal
use Rattle.ig_tool.proofs.Deciding.{named_of_task, decides_at_grammar, decides_at_dots, decides_task, loaded_is_buildable, parsed_is_sayable, still_unchanged}

pub returns-in_err-checked-clause-answer : goal.returns-in_err-checked-clause-answer
returns-in_err-checked-clause-answer g c = λ words command told agree.
    subst (Decides words _) (sym (passed_on c.from_residual.result c.in_err-checked.field-0.0 c.from_residual.ensures.1))
    (decides_at_grammar words _ _ (stored_source c.args.source) c.in_err-checked.field-0.0 command (named_of_task c.args.task (stored_source c.args.source))
    c.in_err-checked.ensures.counted (c.in_err-checked.ensures.answer told agree))

pub parser_of-requires-clause-as_it_is : goal.parser_of-requires-clause-as_it_is
parser_of-requires-clause-as_it_is g c = (c.in_ok-checked.ensures.answer (g.F.Shelf.state c.args.shelf.now).holds c.in_ok-checked.ensures.fetches.as_told).1.2.as_it_is

pub parser_of-requires-clause-buildable : goal.parser_of-requires-clause-buildable
parser_of-requires-clause-buildable g c =
    let told = (g.F.Shelf.state c.args.shelf.now).holds in
    let shelf = change (telling told (g.F.Shelf.state c.args.shelf.now)) (telling told (g.F.Shelf.state c.load_grammar.new.shelf)) in
    loaded_is_buildable c.read_grammars_are_buildable.ensures shelf (stored_source c.args.source) c.in_ok-checked.checked
    (c.in_ok-checked.ensures.answer told c.in_ok-checked.ensures.fetches.as_told)

pub returns-in_err-parser-clause-answer : goal.returns-in_err-parser-clause-answer
returns-in_err-parser-clause-answer g c = λ words command told agree.
    subst (Decides words _) (sym (passed_on c.from_residual-in_err-parser.result c.in_err-parser.field-0.0 c.from_residual-in_err-parser.ensures.1))
    (decides_at_dots words _ (stored_source c.args.source) c.in_ok-checked.checked c.in_ok-checked.ensures.counted (c.in_ok-checked.ensures.answer told agree)
    _ c.in_err-parser.field-0.0 command (named_of_task c.args.task (stored_source c.args.source)) c.in_err-parser.ensures)

pub do_task-requires : goal.do_task-requires
do_task-requires g c =
    let told = (g.F.Shelf.state c.args.shelf.now).holds in
    let shelf = change (telling told (g.F.Shelf.state c.args.shelf.now)) (telling told (g.F.Shelf.state c.load_grammar.new.shelf)) in
    record {
      as_it_is = still_unchanged c.in_ok-checked.checked.grammar c.in_ok-parser.parser c.in_ok-parser.ensures.0;
      sayable = parsed_is_sayable c.read_grammars_have_readings.ensures shelf (stored_source c.args.source) c.in_ok-checked.checked
          c.in_ok-parser.parser (c.in_ok-checked.ensures.answer told c.in_ok-checked.ensures.fetches.as_told) c.in_ok-parser.ensures;
    }

pub returns-clause-answer : goal.returns-clause-answer
returns-clause-answer g c = λ words command told agree.
    decides_task words _ (stored_source c.args.source) c.in_ok-checked.checked c.in_ok-checked.ensures.counted (c.in_ok-checked.ensures.answer told agree)
    c.in_ok-parser.parser c.in_ok-parser.ensures c.args.task c.do_task.result command c.do_task.ensures
