use Rattle.ig_command_sources.proofs.Loading.{forest_given, forest_long, file_unread, file_missing}
use Rattle.ig_command_sources.specs.Sources.{IsLongForest}
use Rattle.ig_command_sources.proofs.Recorded.{agrees, only_one}
use Rattle.ig_command_sources.proofs.load.load_forest.Goals as goal

pub returns-in-Ok-clause-answer : goal.returns-in-Ok-clause-answer
returns-in-Ok-clause-answer g c = λ told agree.
    forest_given _ c.args.name.now _ _ c.in-Ok.bytes (agrees told _ _ _ c.in-Ok.ensures.recorded agree) c.in-Ok.ensures.cause

pub returns-in-Err-Long-clause-answer : goal.returns-in-Err-Long-clause-answer
returns-in-Err-Long-clause-answer g c = λ told agree.
    let answer = agrees told _ _ _ (rw c.in-Err-Long.field-0-is at c.in-Err-Long.ensures.recorded) agree in
    let cause = rw c.in-Err-Long.field-0-is at c.in-Err-Long.ensures.cause in
    forest_long _ c.args.name.now _ _ c.long_forest.result answer cause c.long_forest.ensures

pub returns-in-Err-Failed-clause-answer : goal.returns-in-Err-Failed-clause-answer
returns-in-Err-Failed-clause-answer g c = λ told agree.
    let cause = rw c.in-Err-Failed.field-0-is at c.in-Err-Failed.ensures.cause in
    file_unread _ c.args.name.now _ _ IsLongForest c.cannot_read.result cause c.cannot_read.ensures

pub returns-in-Err-Missing-clause-answer : goal.returns-in-Err-Missing-clause-answer
returns-in-Err-Missing-clause-answer g c = λ told agree.
    let answer = agrees told _ _ _ (rw c.in-Err-Missing.field-0-is at c.in-Err-Missing.ensures.recorded) agree in
    let cause = rw c.in-Err-Missing.field-0-is at c.in-Err-Missing.ensures.cause in
    file_missing _ c.args.name.now _ _ IsLongForest _ c.cannot_read-in-Err-Missing.result answer cause c.cannot_read-in-Err-Missing.ensures

pub returns-in-Ok-clause-fetches : goal.returns-in-Ok-clause-fetches
returns-in-Ok-clause-fetches g c = only_one _ _ _ c.in-Ok.ensures.recorded c.in-Ok.ensures.answer c.in-Ok.ensures.same

pub returns-in-Err-Long-clause-fetches : goal.returns-in-Err-Long-clause-fetches
returns-in-Err-Long-clause-fetches g c = only_one _ _ _ c.in-Err-Long.ensures.recorded c.in-Err-Long.ensures.answer c.in-Err-Long.ensures.same

pub returns-in-Err-Failed-clause-fetches : goal.returns-in-Err-Failed-clause-fetches
returns-in-Err-Failed-clause-fetches g c = only_one _ _ _ c.in-Err-Failed.ensures.recorded c.in-Err-Failed.ensures.answer c.in-Err-Failed.ensures.same

pub returns-in-Err-Missing-clause-fetches : goal.returns-in-Err-Missing-clause-fetches
returns-in-Err-Missing-clause-fetches g c = only_one _ _ _ c.in-Err-Missing.ensures.recorded c.in-Err-Missing.ensures.answer c.in-Err-Missing.ensures.same

pub returns-in-Err-Memory-clause-fetches : goal.returns-in-Err-Memory-clause-fetches
returns-in-Err-Memory-clause-fetches g c = only_one _ _ _ c.in-Err-Memory.ensures.recorded c.in-Err-Memory.ensures.answer c.in-Err-Memory.ensures.same
