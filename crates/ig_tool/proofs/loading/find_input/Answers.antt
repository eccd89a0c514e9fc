use Rattle.ig_tool.proofs.Finding.{finds_no_input}
use Rattle.ig_tool.proofs.loading.find_input.Goals as goal

pub returns-in-Err-clause-answer : goal.returns-in-Err-clause-answer
returns-in-Err-clause-answer g c = λ told agree.
    finds_no_input c.args.tabs c.args.at _ c.args.name.now _ _ c.in-Err.stop c.refused.result
    (c.in-Err.ensures.answer told agree) c.refused.ensures
