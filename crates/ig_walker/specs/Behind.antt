-- What is behind an option, as a list of goals.
use Rattle.std.specs.Prelude.{List, [], ◌∷◌}
use Rattle.ig_walker.specs.declared.goal.Goal.{Goal}
use Rattle.ig_walker.specs.declared.goal.Behind.{Behind}
use Rattle.ig_walker.specs.declared.goal.Behind.TheVariants.{Nothing, One, Two}

abbrev pub listed : Behind → List Goal
listed Nothing = []
listed (One g) = g ∷ []
listed (Two g h) = g ∷ h ∷ []
