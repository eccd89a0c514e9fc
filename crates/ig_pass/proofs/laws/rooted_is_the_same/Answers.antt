use Rattle.ig_pass.proofs.RootTrees.{rooted_permits_same, rooted_keeps_values}
use Rattle.ig_pass.proofs.RootScoped.{rooted_is_well_scoped}
use Rattle.ig_pass.proofs.RootShaped.{rooted_fits, rooted_is_regular, rooted_is_unmarked}
use Rattle.ig_pass.proofs.laws.rooted_is_the_same.Goals as goal

pub returns : goal.returns
returns k = λ c scoped fit rootless fresh.
    record {
      same = rooted_permits_same c scoped fit rootless fresh;
      values = rooted_keeps_values c scoped fit rootless fresh;
      scoped = rooted_is_well_scoped c.grammar scoped fresh;
      fit = rooted_fits c scoped fit rootless fresh;
      unmarked = rooted_is_unmarked c.grammar;
      regular = rooted_is_regular c.grammar;
    }
