-- Nonterminals that the tags of a tree name.
use Rattle.std.specs.Prelude.{◌≡◌, ℕ, ◌<◌, List, length, Contains, Some}
use Rattle.ig_text.specs.declared.tag.Tag.TheVariants.{Rule}
use Rattle.ig_item.specs.declared.core_grammar.Nonterminal.{Nonterminal}
use Rattle.ig_forest.specs.declared.tree.Part.{Part}

-- each tag of a declaration's alternative has the number of a nonterminal that is there
abbrev pub TagsAreNamed : List Nonterminal → List Part → Type 0
TagsAreNamed core parts =
    (part : Part) (n k : ℕ) → Contains parts part → part.tag ≡ Some (Rule n k) → n < length core
