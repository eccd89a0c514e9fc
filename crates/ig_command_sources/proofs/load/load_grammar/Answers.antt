use Rattle.std.proofs.Common.{subst, sym}
use Rattle.ig_text.proofs.Options.{passed_on}
use Rattle.ig_command_endings.specs.Change.{change, telling}
use Rattle.ig_command_sources.proofs.Loading.{grammar_given, grammar_long, not_fetched}
use Rattle.ig_command_sources.specs.Sources.{IsNoGrammar, LoadsGrammar}
use Rattle.ig_command_sources.proofs.load.load_grammar.Goals as goal

pub returns-in_err-bytes-clause-answer : goal.returns-in_err-bytes-clause-answer
returns-in_err-bytes-clause-answer g c = λ told agree.
    let old = telling told (g.F.Shelf.state c.args.shelf.now) in
    let new = telling told (g.F.Shelf.state c.fetch_grammar.new.shelf) in
    subst (LoadsGrammar c.args.notation (change old new) c.args.name.now)
    (sym (passed_on c.from_residual.result c.in_err-bytes.field-0.0 c.from_residual.ensures.1))
    (not_fetched _ c.args.name.now _ _ (IsNoGrammar c.args.notation) c.in_err-bytes.field-0.0
    (c.in_err-bytes.ensures.answer told agree))

pub returns-in-Some-clause-answer : goal.returns-in-Some-clause-answer
returns-in-Some-clause-answer g c = λ told agree.
    grammar_given c.args.notation _ c.args.name.now c.as_slice.result.now _ _ c.in-Some.bytes c.read_grammar.result
    (rw c.in-Some.is at c.in_ok-bytes.ensures.answer told agree) c.as_slice.ensures.value c.read_grammar.ensures

pub returns-in-None-clause-answer : goal.returns-in-None-clause-answer
returns-in-None-clause-answer g c = λ told agree.
    grammar_long c.args.notation _ c.args.name.now _ _ c.long_grammar.result
    (rw c.in-None.is at c.in_ok-bytes.ensures.answer told agree) c.long_grammar.ensures
