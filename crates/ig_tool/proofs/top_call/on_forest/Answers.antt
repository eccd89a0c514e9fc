use Rattle.std.proofs.Common.{[], subst, sym, refl}
use Rattle.ig_text.proofs.Options.{passed_on}
use Rattle.ig_command_endings.specs.Change.{change, telling}
use Rattle.ig_command.specs.Commands.{stored_source}
use Rattle.ig_tool.specs.Decisions.{Decides}
use Rattle.ig_tool.proofs.Recorded.{first, only_both, second}
use Rattle.ig_tool.proofs.top_call.on_forest.Goals as goal
use Rattle.ig_tool.proofs.Deciding.{decides_at_grammar, decides_at_dots, decides_at_input, decides_check, is_taken, loaded_is_buildable}

pub returns-in_err-checked-clause-answer : goal.returns-in_err-checked-clause-answer
returns-in_err-checked-clause-answer g c = λ words command told agree.
    subst (Decides words _) (sym (passed_on c.from_residual.result c.in_err-checked.field-0.0 c.from_residual.ensures.1))
    (decides_at_grammar words _ _ (stored_source c.args.files.grammar) c.in_err-checked.field-0.0 command refl
    c.in_err-checked.ensures.counted (c.in_err-checked.ensures.answer told agree))

pub parser_of-requires-clause-as_it_is : goal.parser_of-requires-clause-as_it_is
parser_of-requires-clause-as_it_is g c = (c.in_ok-checked.ensures.answer (g.F.Shelf.state c.args.shelf.now).holds c.in_ok-checked.ensures.fetches.as_told).1.2.as_it_is

pub parser_of-requires-clause-buildable : goal.parser_of-requires-clause-buildable
parser_of-requires-clause-buildable g c =
    let told = (g.F.Shelf.state c.args.shelf.now).holds in
    let shelf = change (telling told (g.F.Shelf.state c.args.shelf.now)) (telling told (g.F.Shelf.state c.load_grammar.new.shelf)) in
    loaded_is_buildable c.read_grammars_are_buildable.ensures shelf (stored_source c.args.files.grammar) c.in_ok-checked.checked
    (c.in_ok-checked.ensures.answer told c.in_ok-checked.ensures.fetches.as_told)

pub returns-in_err-parser-clause-answer : goal.returns-in_err-parser-clause-answer
returns-in_err-parser-clause-answer g c = λ words command told agree.
    subst (Decides words _) (sym (passed_on c.from_residual-in_err-parser.result c.in_err-parser.field-0.0 c.from_residual-in_err-parser.ensures.1))
    (decides_at_dots words _ (stored_source c.args.files.grammar) c.in_ok-checked.checked c.in_ok-checked.ensures.counted (c.in_ok-checked.ensures.answer told agree)
    _ c.in_err-parser.field-0.0 command refl c.in_err-parser.ensures)

pub check_forest-requires : goal.check_forest-requires
check_forest-requires g c =
    let told = (g.F.Shelf.state c.args.shelf.now).holds in
    let shelf = change (telling told (g.F.Shelf.state c.args.shelf.now)) (telling told (g.F.Shelf.state c.load_grammar.new.shelf)) in
    record {
      taken = is_taken [] shelf (stored_source c.args.files.grammar) c.in_ok-checked.checked c.in_ok-checked.ensures.counted
          (c.in_ok-checked.ensures.answer told c.in_ok-checked.ensures.fetches.as_told) c.in_ok-parser.parser c.in_ok-parser.ensures;
    }

pub returns-in_err-input-clause-answer : goal.returns-in_err-input-clause-answer
returns-in_err-input-clause-answer g c = λ words command told agree.
    let old = g.F.Shelf.state c.args.shelf.now in
    let mid = g.F.Shelf.state c.load_grammar.new.shelf in
    let new = g.F.Shelf.state c.load_input.new.shelf in
    let early = first old mid new c.in_ok-checked.ensures.fetches c.in_err-input.ensures.fetches told agree in
    let late = second old mid new c.in_ok-checked.ensures.fetches c.in_err-input.ensures.fetches told agree in
    subst (Decides words _) (sym (passed_on c.from_residual-in_err-input.result c.in_err-input.field-0.0 c.from_residual-in_err-input.ensures.1))
    (decides_at_input words (stored_source c.args.files.grammar) c.args.files.input.now c.args.name.now command
    (telling told old) (telling told mid) c.in_ok-checked.checked
    c.in_ok-parser.parser c.in_ok-checked.ensures.counted (λ n. refl) (c.in_ok-checked.ensures.answer told early)
    c.in_ok-parser.ensures (telling told new) c.in_err-input.ensures.counted c.tab_width.result c.in_err-input.field-0.0
    (c.in_err-input.ensures.answer told late))

pub returns-clause-answer : goal.returns-clause-answer
returns-clause-answer g c = λ words command told agree.
    let old = g.F.Shelf.state c.args.shelf.now in
    let mid = g.F.Shelf.state c.load_grammar.new.shelf in
    let read = g.F.Shelf.state c.load_input.new.shelf in
    let new = g.F.Shelf.state c.check_forest.new.shelf in
    let two = only_both old mid read c.in_ok-checked.ensures.fetches c.in_ok-input.ensures.fetches in
    let start = first old read new two c.check_forest.ensures.fetches told agree in
    let last = second old read new two c.check_forest.ensures.fetches told agree in
    let early = first old mid read c.in_ok-checked.ensures.fetches c.in_ok-input.ensures.fetches told start in
    let late = second old mid read c.in_ok-checked.ensures.fetches c.in_ok-input.ensures.fetches told start in
    decides_check words (stored_source c.args.files.grammar) c.args.files.input.now c.args.name.now command
    (telling told old) (telling told mid) c.in_ok-checked.checked
    c.in_ok-parser.parser c.in_ok-checked.ensures.counted (λ n. refl) (c.in_ok-checked.ensures.answer told early)
    c.in_ok-parser.ensures (telling told read) c.in_ok-input.ensures.counted (telling told new) c.in_ok-input.input (λ n. refl)
    c.tab_width.result c.tab_width.ensures.width (c.in_ok-input.ensures.answer told late) c.check_forest.ensures.counted
    c.check_forest.result (c.check_forest.ensures.answer told last)

pub returns-in_err-checked-clause-fetches : goal.returns-in_err-checked-clause-fetches
returns-in_err-checked-clause-fetches g c = c.in_err-checked.ensures.fetches

pub returns-in_err-parser-clause-fetches : goal.returns-in_err-parser-clause-fetches
returns-in_err-parser-clause-fetches g c = c.in_ok-checked.ensures.fetches

pub returns-in_err-input-clause-fetches : goal.returns-in_err-input-clause-fetches
returns-in_err-input-clause-fetches g c = only_both _ _ _ c.in_ok-checked.ensures.fetches c.in_err-input.ensures.fetches

pub returns-clause-fetches : goal.returns-clause-fetches
returns-clause-fetches g c =
    only_both _ _ _ (only_both _ _ _ c.in_ok-checked.ensures.fetches c.in_ok-input.ensures.fetches) c.check_forest.ensures.fetches
