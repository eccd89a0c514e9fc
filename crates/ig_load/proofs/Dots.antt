-- The core grammar of a load has few dots.
use Rattle.std.proofs.Common.{◌≤◌, lit≤}
use Rattle.ig_item.specs.Core.{dots}
use Rattle.ig_item.specs.Limits.{most_dots}
use Rattle.ig_core.specs.Lowered.{CoreOf, Lowered, BeforeLists}
use Rattle.ig_core.specs.Notation.{unchanged}
use Rattle.ig_load.specs.Grammar.{LoadGrammar}

pub few_dots : dots (CoreOf (unchanged LoadGrammar)) ≤ most_dots
unfolding CoreOf Lowered BeforeLists LoadGrammar
few_dots = lit≤ tt
