-- The first complete item of the root over the whole text.
use Rattle.std.specs.Prelude.{◌≡◌, ℕ, List, length}
use Rattle.ig_item.specs.Core.{IsAlternative}
use Rattle.ig_item.specs.Items.{Reachable}
use Rattle.ig_item.specs.Recorded.{Recording}
use Rattle.ig_item.specs.Tables.{items_of}
use Rattle.ig_item.specs.Ways.{IsFirstEnd}
use Rattle.ig_item.specs.declared.core_grammar.Nonterminal.{Nonterminal}
use Rattle.ig_item.specs.declared.core_grammar.CoreAlt.{CoreAlt}
use Rattle.ig_forest_live.specs.Live.{root_key}

-- the dot stands behind the last step of that alternative
pub record IsLastDot (core : List Nonterminal) (n a dot : ℕ) : Type 0 where
  pub nonterminal : Nonterminal
  pub alternative : CoreAlt
  pub has : IsAlternative core n a nonterminal alternative
  pub last : dot ≡ length alternative.steps

-- the number of that item of a recording
abbrev pub IsFirstRoot : Recording → ℕ → Type 0
IsFirstRoot r k = IsFirstEnd r.core (Reachable r.core r.text) (items_of r.tables) (root_key r.text) k
