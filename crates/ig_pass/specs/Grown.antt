-- The values of what an environment grew by. This stands here with its proofs, for the values that the passes keep; nothing
-- of it has to be believed.
use Rattle.std.proofs.Common.{◌≡◌, ◌∙◌, [], ◌∷◌, ◌++◌, refl, sym, ap}
use Rattle.ig_meaning.specs.Environment.{Environment, values}
use Rattle.ig_meaning.specs.Annotated.{bound_between}

pub values_behind : (env grown : Environment) → bound_between env (env ++ grown) ≡ values grown
values_behind [] grown = refl
values_behind (pair ∷ env) grown = values_behind env grown

-- where environments grow alike, the values that were bound are the same
pub bound_alike : (env after other grown : Environment) → after ≡ env ++ grown → bound_between env after ≡ bound_between other (other ++ grown)
bound_alike env after other grown same = ap (bound_between env) same ∙ values_behind env grown ∙ sym (values_behind other grown)
