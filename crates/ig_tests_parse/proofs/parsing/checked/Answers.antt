use Rattle.ig_tests_parse.proofs.ReadTexts.{checked_as_it_is, checked_is_buildable}
use Rattle.ig_tests_parse.proofs.parsing.checked.Goals as goal

pub check-requires : goal.check-requires
check-requires c = (c.read_grammars_are_regular.ensures c.args.source.now c.in_ok-grammar.grammar c.utf8.source c.in_ok-grammar.ensures.ok).0

pub returns-clause-buildable : goal.returns-clause-buildable
returns-clause-buildable c =
    checked_is_buildable c.read_grammars_are_buildable.ensures c.args.source.now c.in_ok-grammar.grammar c.in_ok-checked.checked
    (record { utf8 = c.utf8.source; reading = c.in_ok-grammar.ensures.ok; scoped = c.in_ok-checked.ensures.scoped })
    c.in_ok-checked.ensures.grammar c.in_ok-checked.ensures.shapes

pub returns-clause-as_it_is : goal.returns-clause-as_it_is
returns-clause-as_it_is c =
    checked_as_it_is c.in_ok-grammar.grammar c.in_ok-checked.checked c.in_ok-checked.ensures.grammar c.in_ok-checked.ensures.shapes
