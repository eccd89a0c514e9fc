use Rattle.std.proofs.Common.{ap, arith, refl, length, map}
use Rattle.std.proofs.lemmas.List.{length-map}
use Rattle.ig_turns.specs.Reads.{stored_job}
use Rattle.ig_tool.specs.Loading.{grammars_of}
use Rattle.ig_command_endings.specs.Change.{change, telling}
use Rattle.ig_command_endings.specs.declared.stop.Stop.TheVariants as halt
use Rattle.ig_tool.proofs.Running.{all_placed, as_many_loaded, gives_text, passed_batch, runs_out, stops_at_jobs, stops_at_list}
use Rattle.ig_tool.proofs.Recorded.{first, only_both, second}
use Rattle.ig_tool.proofs.run.batch.Goals as goal

pub returns-in_err-names-clause-answer : goal.returns-in_err-names-clause-answer
returns-in_err-names-clause-answer g c = λ told agree.
    let shelf = change (telling told (g.F.Shelf.state c.args.shelf.now)) (telling told (g.F.Shelf.state c.load_list.new.shelf)) in
    passed_batch c.args.budget shelf c.args.list.now c.from_residual.result c.in_err-names.field-0.0 c.from_residual.ensures.1
    (stops_at_list c.args.budget shelf c.args.list.now c.in_err-names.field-0.0 c.in_err-names.ensures.counted
    (c.in_err-names.ensures.answer told agree))

pub returns-in_err-batch-clause-answer : goal.returns-in_err-batch-clause-answer
returns-in_err-batch-clause-answer g c = λ told agree.
    let old = g.F.Shelf.state c.args.shelf.now in
    let mid = g.F.Shelf.state c.load_list.new.shelf in
    let new = g.F.Shelf.state c.load_jobs.new.shelf in
    let early = first old mid new c.in_ok-names.ensures.fetches c.in_err-batch.ensures.fetches told agree in
    let late = second old mid new c.in_ok-names.ensures.fetches c.in_err-batch.ensures.fetches told agree in
    passed_batch c.args.budget (change (telling told old) (telling told new)) c.args.list.now c.from_residual-in_err-batch.result c.in_err-batch.field-0.0
    c.from_residual-in_err-batch.ensures.1
    (stops_at_jobs c.args.budget (telling told old) (telling told mid) (telling told new) c.args.list.now c.in_ok-names.names c.in_ok-names.ensures.counted
    (c.in_ok-names.ensures.answer told early) (λ name. refl) c.as_slice.result.now c.as_slice.ensures.value c.in_err-batch.field-0.0
    (c.in_err-batch.ensures.answer told late))

pub returns-in_err-text-clause-answer : goal.returns-in_err-text-clause-answer
returns-in_err-text-clause-answer g c = λ told agree.
    let old = g.F.Shelf.state c.args.shelf.now in
    let mid = g.F.Shelf.state c.load_list.new.shelf in
    let new = g.F.Shelf.state c.load_jobs.new.shelf in
    let early = first old mid new c.in_ok-names.ensures.fetches c.in_ok-batch.ensures.fetches told agree in
    let late = second old mid new c.in_ok-names.ensures.fetches c.in_ok-batch.ensures.fetches told agree in
    passed_batch c.args.budget (change (telling told old) (telling told new)) c.args.list.now c.from_residual-in_err-text.result halt.Memory
    c.from_residual-in_err-text.ensures.1
    (runs_out c.args.budget (telling told old) (telling told mid) (telling told new) c.args.list.now c.in_ok-names.names c.in_ok-names.ensures.counted
    (c.in_ok-names.ensures.answer told early) (λ name. refl) c.as_slice.result.now c.as_slice.ensures.value c.in_ok-batch.batch.kept.items c.in_ok-batch.batch.jobs.items
    (c.in_ok-batch.ensures.answer told late))

pub returns-clause-answer : goal.returns-clause-answer
returns-clause-answer g c = λ told agree.
    let old = g.F.Shelf.state c.args.shelf.now in
    let mid = g.F.Shelf.state c.load_list.new.shelf in
    let new = g.F.Shelf.state c.load_jobs.new.shelf in
    let early = first old mid new c.in_ok-names.ensures.fetches c.in_ok-batch.ensures.fetches told agree in
    let late = second old mid new c.in_ok-names.ensures.fetches c.in_ok-batch.ensures.fetches told agree in
    gives_text c.args.budget (telling told old) (telling told mid) (telling told new) c.args.list.now c.in_ok-names.names c.in_ok-names.ensures.counted
    (c.in_ok-names.ensures.answer told early) (λ name. refl) c.as_slice.result.now c.as_slice.ensures.value c.in_ok-batch.batch.kept.items c.in_ok-batch.batch.jobs.items
    (c.in_ok-batch.ensures.answer told late) c.in_ok-text.text c.in_ok-text.ensures

pub returns-in_err-batch-clause-fetches : goal.returns-in_err-batch-clause-fetches
returns-in_err-batch-clause-fetches g c = only_both _ _ _ c.in_ok-names.ensures.fetches c.in_err-batch.ensures.fetches

pub returns-in_err-text-clause-fetches : goal.returns-in_err-text-clause-fetches
returns-in_err-text-clause-fetches g c = only_both _ _ _ c.in_ok-names.ensures.fetches c.in_ok-batch.ensures.fetches

pub returns-clause-fetches : goal.returns-clause-fetches
returns-clause-fetches g c = only_both _ _ _ c.in_ok-names.ensures.fetches c.in_ok-batch.ensures.fetches

pub play-requires-clause-few : goal.play-requires-clause-few
play-requires-clause-few g c =
    let are = c.in_ok-batch.ensures.answer (g.F.Shelf.state c.load_list.new.shelf).holds c.in_ok-batch.ensures.fetches.as_told in
    let jobs = map stored_job c.as_slice.result.now in
    let many =
    as_many_loaded (g.F.Shelf.state c.load_list.new.shelf).holds (grammars_of c.in_ok-batch.batch.kept.items) jobs
    c.in_ok-batch.batch.jobs.items are.fetches are.all in
    let mapped = length-map c.as_slice.result.now stored_job in
    let read = ap length c.as_slice.ensures.value in
    let long = c.in_ok-names.names.ok.0 in
    let few = c.in_ok-names.ensures.few in
    omega (arith, many, mapped, read, long, few)

pub play-requires-clause-placed : goal.play-requires-clause-placed
play-requires-clause-placed g c =
    let are = c.in_ok-batch.ensures.answer (g.F.Shelf.state c.load_list.new.shelf).holds c.in_ok-batch.ensures.fetches.as_told in
    all_placed (g.F.Shelf.state c.load_list.new.shelf).holds (grammars_of c.in_ok-batch.batch.kept.items)
    (map stored_job c.as_slice.result.now) c.in_ok-batch.batch.jobs.items are.fetches are.all

pub play-requires-clause-kept : goal.play-requires-clause-kept
play-requires-clause-kept g c =
    (c.in_ok-batch.ensures.answer (g.F.Shelf.state c.load_list.new.shelf).holds c.in_ok-batch.ensures.fetches.as_told).all_kept
