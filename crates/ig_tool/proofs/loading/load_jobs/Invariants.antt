use Rattle.std.proofs.Common.{map, take}
use Rattle.ig_turns.specs.Reads.{stored_job}
use Rattle.ig_command_endings.specs.Change.{ByFetches, OnlyFetches, change}
use Rattle.ig_tool.specs.Loading.{AreLoaded}
use Rattle.ig_tool.proofs.loading.load_jobs.Given as goal

-- the jobs so far are loaded
abbrev pub invariant-loop-names : goal.invariant-loop-names
invariant-loop-names g l = record {
  loaded : ByFetches (λ call. AreLoaded call (map stored_job (take l.names-index l.list)) l.kept.items l.jobs.items)
      (change (g.F.Shelf.state l.fn.shelf) (g.F.Shelf.state l.shelf));
  fetches : OnlyFetches (change (g.F.Shelf.state l.fn.shelf) (g.F.Shelf.state l.shelf));
}
