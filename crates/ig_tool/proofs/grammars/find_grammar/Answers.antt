use Rattle.ig_tool.proofs.Finding.{finds_long, finds_passed, finds_placed}
use Rattle.ig_tool.proofs.grammars.find_grammar.Goals as goal

pub returns-in_err-bytes-clause-answer : goal.returns-in_err-bytes-clause-answer
returns-in_err-bytes-clause-answer g c = λ told agree.
    finds_passed c.args.kept.now.items _ c.args.name.now _ _ c.from_residual.result c.in_err-bytes.field-0.0
    c.from_residual.ensures.1 (c.in_err-bytes.ensures.answer told agree)

pub returns-in-Some-clause-answer : goal.returns-in-Some-clause-answer
returns-in-Some-clause-answer g c = λ told agree.
    finds_placed c.place_grammar.new.kept.items _ c.args.name.now _ _ c.in-Some.bytes c.place_grammar.result
    (rw c.in-Some.is at c.in_ok-bytes.ensures.answer told agree) c.place_grammar.ensures.answer

pub returns-in-None-clause-answer : goal.returns-in-None-clause-answer
returns-in-None-clause-answer g c = λ told agree.
    finds_long c.args.kept.now.items _ c.args.name.now _ _ c.long_grammar.result c.refused.result
    (rw c.in-None.is at c.in_ok-bytes.ensures.answer told agree) c.long_grammar.ensures c.refused.ensures
