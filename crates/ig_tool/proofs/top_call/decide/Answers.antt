use Rattle.std.proofs.Common.{subst, sym}
use Rattle.std.specs.Prelude.{map, string_bytes}
use Rattle.ig_command.specs.Commands.{IsCommand}
use Rattle.ig_tool.proofs.Batching.{decides_batch}
use Rattle.ig_tool.proofs.Deciding.{decides_usage, decides_load, decides_memory}
use Rattle.ig_tool.proofs.Recorded.{only_none}
use Rattle.ig_tool.proofs.top_call.decide.Goals as goal

pub returns-in_default-clause-answer : goal.returns-in_default-clause-answer
returns-in_default-clause-answer g c = λ told agree.
    decides_usage _ _ c.usage.result (rw c.in_default.is at c.in_ok-command.ensures.reads) c.usage.ensures

pub returns-in_err-command-clause-answer : goal.returns-in_err-command-clause-answer
returns-in_err-command-clause-answer g c = λ told agree.
    decides_memory _ _ c.from_residual.result c.from_residual.ensures.1

pub returns-in-OnGrammar-clause-answer : goal.returns-in-OnGrammar-clause-answer
returns-in-OnGrammar-clause-answer g c =
    let read = rw c.in-Some.is at c.in_ok-command.ensures.reads in
    let asked = rw c.in-OnGrammar.is at c.work_of.ensures.request in
    c.on_grammar.ensures.answer _ (subst (IsCommand (map string_bytes c.args.words.now)) (sym asked) read)

pub returns-in-OnInput-clause-answer : goal.returns-in-OnInput-clause-answer
returns-in-OnInput-clause-answer g c =
    let read = rw c.in-Some.is at c.in_ok-command.ensures.reads in
    let asked = rw c.in-OnInput.is at c.work_of.ensures.request in
    c.on_input.ensures.answer _ (subst (IsCommand (map string_bytes c.args.words.now)) (sym asked) read)

pub returns-in-OnForest-clause-answer : goal.returns-in-OnForest-clause-answer
returns-in-OnForest-clause-answer g c =
    let read = rw c.in-Some.is at c.in_ok-command.ensures.reads in
    let asked = rw c.in-OnForest.is at c.work_of.ensures.request in
    c.on_forest.ensures.answer _ (subst (IsCommand (map string_bytes c.args.words.now)) (sym asked) read)

pub summary_line-requires : goal.summary_line-requires
summary_line-requires g c =
    let read = rw c.in-Some.is at c.in_ok-command.ensures.reads in
    let asked = rw c.in-OfLoad.is at c.work_of.ensures.request in
    c.load_sizes_are_few.ensures (map string_bytes c.args.words.now) c.in-OfLoad.size c.in-OfLoad.number c.in-OfLoad.budget
    (subst (IsCommand (map string_bytes c.args.words.now)) (sym asked) read)

pub returns-in-OfLoad-clause-answer : goal.returns-in-OfLoad-clause-answer
returns-in-OfLoad-clause-answer g c = λ told agree.
    let read = rw c.in-Some.is at c.in_ok-command.ensures.reads in
    let asked = rw c.in-OfLoad.is at c.work_of.ensures.request in
    decides_load _ _ c.in-OfLoad.size c.in-OfLoad.number c.in-OfLoad.budget c.summary_line.result
    (subst (IsCommand (map string_bytes c.args.words.now)) (sym asked) read) c.summary_line.ensures

pub batch-requires : goal.batch-requires
batch-requires g c =
    let read = rw c.in-Some.is at c.in_ok-command.ensures.reads in
    let asked = rw c.in-OnList.is at c.work_of.ensures.request in
    (c.batch_numbers_are_some.ensures (map string_bytes c.args.words.now) c.in-OnList.list.now c.in-OnList.budget c.in-OnList.turn
    (subst (IsCommand (map string_bytes c.args.words.now)) (sym asked) read)).some_events

pub returns-in-OnList-clause-answer : goal.returns-in-OnList-clause-answer
returns-in-OnList-clause-answer g c = λ told agree.
    let read = rw c.in-Some.is at c.in_ok-command.ensures.reads in
    let asked = rw c.in-OnList.is at c.work_of.ensures.request in
    decides_batch _ _ c.in-OnList.list.now c.in-OnList.budget c.in-OnList.turn
    (subst (IsCommand (map string_bytes c.args.words.now)) (sym asked) read) c.batch.result (c.batch.ensures.answer told agree)

pub returns-in_default-clause-fetches : goal.returns-in_default-clause-fetches
returns-in_default-clause-fetches g c = only_none _

pub returns-in_err-command-clause-fetches : goal.returns-in_err-command-clause-fetches
returns-in_err-command-clause-fetches g c = only_none _

pub returns-in-OfLoad-clause-fetches : goal.returns-in-OfLoad-clause-fetches
returns-in-OfLoad-clause-fetches g c = only_none _
