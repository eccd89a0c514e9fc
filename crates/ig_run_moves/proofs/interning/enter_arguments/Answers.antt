use Rattle.std.proofs.Common.{[], subst, sym, slice_index_or}
use Rattle.ig_run_tables.specs.Compiled.{values_in}
use Rattle.ig_run_tables.specs.Extends.{Enters}
use Rattle.ig_run_moves.proofs.Standing.{stands_there}
use Rattle.ig_run_moves.proofs.interning.enter_arguments.Goals as goal

pub returns-in-Own-clause-enters : goal.returns-in-Own-clause-enters
returns-in-Own-clause-enters c =
    subst (λ z. Enters c.args.envs.now.keys c.args.envs.now.keys (values_in (slice_index_or c.args.envs.now.keys c.args.env []) z) c.args.env)
    (sym c.in-Own.is) (stands_there c.args.envs.now.keys c.args.env [] c.requires.there)
