use Rattle.std.proofs.Common.{[], ◌∷◌, ◌++◌, refl, subst, map, take, List}
use Rattle.std.proofs.lemmas.List.{take_all}
use Rattle.ig_turns.specs.Reads.{stored_job}
use Rattle.ig_turns.specs.declared.job_list.Names.{Names}
use Rattle.ig_command_endings.specs.Change.{change, telling}
use Rattle.ig_command_endings.specs.declared.stop.Stop.TheVariants as halt
use Rattle.ig_tool.specs.Loading.{AreLoaded}
use Rattle.ig_tool.proofs.Loads.{loaded_upto, memory_behind, none_loaded, one_loaded, one_stops, passed_stop, stops_among}
use Rattle.ig_tool.proofs.Recorded.{first, only_both, only_none, second}
use Rattle.ig_tool.proofs.loading.load_jobs.Goals as goal

pub loop-names-init : goal.loop-names-init
loop-names-init g c =
    record {
      loaded = λ told agree.
          none_loaded (telling told (g.F.Shelf.state c.args.shelf.now)) c.new-kept.result.items c.new-jobs.result.items
          c.new-kept.ensures.items c.new-jobs.ensures.items;
      fetches = only_none _;
    }

pub loop-names-preserved : goal.loop-names-preserved
loop-names-preserved g c =
    let old = g.F.Shelf.state c.args.shelf.now in
    let mid = g.F.Shelf.state c.loop-names.shelf in
    let new = g.F.Shelf.state c.load_job.new.shelf in
    record {
      loaded = λ told agree.
          let early = first old mid new c.loop-names.invariant.fetches c.in_ok-job.ensures.fetches told agree in
          let late = second old mid new c.loop-names.invariant.fetches c.in_ok-job.ensures.fetches told agree in
          let one =
          one_loaded (telling told old) (telling told mid) (telling told new)
          (map stored_job (take c.loop-names.names-index c.args.list.now)) c.loop-names.kept.items
          c.loop-names.jobs.items (c.loop-names.invariant.loaded told early) (λ name. refl) (stored_job c.names-item.result)
          c.load_job.new.kept.items c.in_ok-job.job c.in_ok-job.ensures.grown c.in_ok-job.ensures.kept (c.in_ok-job.ensures.answer told late) in
          loaded_upto c.args.list.now c.loop-names.names-index c.names-item.result c.loop-names-test.true c.names-item.is
          (telling told old) (telling told new) c.load_job.new.kept.items (c.loop-names.jobs.items ++ c.in_ok-job.job ∷ [])
          c.add.new.jobs.items c.in_ok-add.ensures one;
      fetches = only_both old mid new c.loop-names.invariant.fetches c.in_ok-job.ensures.fetches;
    }

pub returns-in_err-job-clause-answer : goal.returns-in_err-job-clause-answer
returns-in_err-job-clause-answer g c = λ told agree.
    let old = g.F.Shelf.state c.args.shelf.now in
    let mid = g.F.Shelf.state c.loop-names.shelf in
    let new = g.F.Shelf.state c.load_job.new.shelf in
    let early = first old mid new c.loop-names.invariant.fetches c.in_err-job.ensures.fetches told agree in
    let late = second old mid new c.loop-names.invariant.fetches c.in_err-job.ensures.fetches told agree in
    passed_stop (telling told old) (telling told new) (map stored_job c.args.list.now) c.from_residual.result c.in_err-job.field-0.0
    c.from_residual.ensures.1
    (stops_among c.args.list.now c.loop-names.names-index c.names-item.result c.loop-names-test.true c.names-item.is
    (telling told old) (telling told new) c.in_err-job.field-0.0
    (one_stops (telling told old) (telling told mid) (telling told new)
    (map stored_job (take c.loop-names.names-index c.args.list.now)) c.loop-names.kept.items
    c.loop-names.jobs.items (c.loop-names.invariant.loaded told early) (λ name. refl) (stored_job c.names-item.result)
    c.in_err-job.field-0.0 (c.in_err-job.ensures.answer told late)))

pub returns-in_err-job-clause-fetches : goal.returns-in_err-job-clause-fetches
returns-in_err-job-clause-fetches g c = only_both _ _ _ c.loop-names.invariant.fetches c.in_err-job.ensures.fetches

pub returns-in_err-add-clause-answer : goal.returns-in_err-add-clause-answer
returns-in_err-add-clause-answer g c = λ told agree.
    let old = g.F.Shelf.state c.args.shelf.now in
    let mid = g.F.Shelf.state c.loop-names.shelf in
    let new = g.F.Shelf.state c.load_job.new.shelf in
    let early = first old mid new c.loop-names.invariant.fetches c.in_ok-job.ensures.fetches told agree in
    let late = second old mid new c.loop-names.invariant.fetches c.in_ok-job.ensures.fetches told agree in
    let one =
    one_loaded (telling told old) (telling told mid) (telling told new)
    (map stored_job (take c.loop-names.names-index c.args.list.now)) c.loop-names.kept.items
    c.loop-names.jobs.items (c.loop-names.invariant.loaded told early) (λ name. refl) (stored_job c.names-item.result)
    c.load_job.new.kept.items c.in_ok-job.job c.in_ok-job.ensures.grown c.in_ok-job.ensures.kept (c.in_ok-job.ensures.answer told late) in
    passed_stop (telling told old) (telling told new) (map stored_job c.args.list.now) c.from_residual-in_err-add.result halt.Memory
    c.from_residual-in_err-add.ensures.1
    (stops_among c.args.list.now c.loop-names.names-index c.names-item.result c.loop-names-test.true c.names-item.is
    (telling told old) (telling told new) halt.Memory
    (memory_behind (telling told old) (telling told new) _ c.load_job.new.kept.items _ one))

pub returns-in_err-add-clause-fetches : goal.returns-in_err-add-clause-fetches
returns-in_err-add-clause-fetches g c = only_both _ _ _ c.loop-names.invariant.fetches c.in_ok-job.ensures.fetches

pub returns-clause-answer : goal.returns-clause-answer
returns-clause-answer g c = λ told agree.
    let old = telling told (g.F.Shelf.state c.args.shelf.now) in
    let new = telling told (g.F.Shelf.state c.loop-names.shelf) in
    subst (λ (z : List Names). AreLoaded (change old new) (map stored_job z) c.loop-names.kept.items c.loop-names.jobs.items)
    (take_all c.loop-names.names-index c.args.list.now c.loop-names-test.false) (c.loop-names.invariant.loaded told agree)

pub load_job-requires : goal.load_job-requires
load_job-requires g c =
    (c.loop-names.invariant.loaded (g.F.Shelf.state c.args.shelf.now).holds c.loop-names.invariant.fetches.as_told).all_kept
