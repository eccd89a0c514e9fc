-- What core grammars keep to as they are printed.
use Rattle.std.specs.Prelude.{◌≤◌, Contains}
use Rattle.ig_grammar.specs.Checked.{CheckedGrammar}
use Rattle.ig_grammar.specs.Name.{IsName}
use Rattle.ig_grammar.specs.declared.declaration.Decl.{Decl}
use Rattle.ig_grammar.specs.declared.grammar.Grammar.{Grammar}
use Rattle.ig_item.specs.Core.{dots}
use Rattle.ig_item.specs.Limits.{most_dots}
use Rattle.ig_core.specs.Lowered.{CoreOf, IsBuildable, IsNumbered}
use Rattle.ig_core.specs.Notation.{unchanged}
use Rattle.ig_forest_reader.specs.Written.{TellsNames}
use Rattle.ig_verify_laws.specs.Ranges.{RootIsUncalled, TagsAreSmall}

-- each declared name is one of the notation
abbrev pub DeclaresNames : Grammar → Type 0
DeclaresNames g = (decl : Decl) → Contains g.decls decl → IsName decl.name

-- what is printed of the core grammar of such a grammar tells its parts, where it has few dots
abbrev pub CoresTellNames : Type 0
CoresTellNames =
    (g : Grammar) → IsBuildable (unchanged g) → IsNumbered (unchanged g) → DeclaresNames g →
    dots (CoreOf (unchanged g)) ≤ most_dots → TellsNames (CoreOf (unchanged g))

-- no step of a core grammar calls the root
abbrev pub CoresCallNoRoot : Type 0
CoresCallNoRoot = (c : CheckedGrammar) → RootIsUncalled (CoreOf c)

-- the numbers in the tags of a core grammar are small, where it has few dots
abbrev pub CoresHaveSmallTags : Type 0
CoresHaveSmallTags = (c : CheckedGrammar) → dots (CoreOf c) ≤ most_dots → TagsAreSmall (CoreOf c)
