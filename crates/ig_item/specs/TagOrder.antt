-- Which core grammars have the alternatives of each nonterminal in the order of their tags.
use Rattle.std.specs.Prelude.{ℕ, ◌<◌, List}
use Rattle.ig_text.specs.TagNumber.{number_of}
use Rattle.ig_item.specs.Core.{IsAlternative}
use Rattle.ig_item.specs.WellKinded.{OfEach}
use Rattle.ig_item.specs.declared.core_grammar.Nonterminal.{Nonterminal}
use Rattle.ig_item.specs.declared.core_grammar.CoreAlt.{CoreAlt}

-- of two alternatives of one nonterminal the later one has the greater tag number
abbrev pub TagsRise : List Nonterminal → Type 0
TagsRise core =
    OfEach core
    (λ n a nonterminal alternative.
    (b : ℕ) (later : CoreAlt) → IsAlternative core n b nonterminal later → a < b →
    number_of alternative.tag < number_of later.tag)
