-- Grammars whose forests are never cyclic.
use Rattle.ig_text.specs.Input.{Input}
use Rattle.ig_grammar.specs.Checked.{CheckedGrammar}
use Rattle.ig_core.specs.Lowered.{CoreOf, IsBuildable, IsNumbered}
use Rattle.ig_forest_tables.specs.Forest.{Forest}
use Rattle.ig_heights.specs.Heights.{IsCyclic}
use Rattle.ig_parse.specs.Parses.{IsForestOf}
use Rattle.ig_analyse.specs.Laws.{NoneGoesRound}

-- where no nonterminal of its core grammar is at once circular, productive and reachable, no forest of a grammar is cyclic
abbrev pub ForestsAreNotCyclic : Type 0
ForestsAreNotCyclic =
    (c : CheckedGrammar) → IsBuildable c → IsNumbered c → NoneGoesRound (CoreOf c) →
    (text : Input) (f : Forest) → IsForestOf c text f → IsCyclic f → ⊥
