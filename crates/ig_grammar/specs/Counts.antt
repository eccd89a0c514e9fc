-- How many declarations, levels, alternatives and symbols a grammar has, and that each of these is below a bound.
use Rattle.std.specs.Prelude.{ℕ, ◌+◌, ◌<◌, length, sum_by}
use Rattle.ig_grammar.specs.Symbol.{Symbol, Group, Filtered, Symbols, Alternatives, no_alternatives, next_alternative}
use Rattle.ig_grammar.specs.Subterms.{subterms, subterms_of_symbols, subterms_of_alternatives}
use Rattle.ig_grammar.specs.Alternative.{gathered_alternatives}
use Rattle.ig_grammar.specs.declared.grammar.Grammar.{Grammar}

abbrev pub number_of_alternatives : Alternatives → ℕ
number_of_alternatives no_alternatives = 0
number_of_alternatives (next_alternative xs others) = number_of_alternatives others + 1

-- how many alternatives a symbol itself has
abbrev pub own_alternatives : Symbol → ℕ
own_alternatives (Group choices) = number_of_alternatives choices
own_alternatives x = 0

-- a symbol counts with its filters
abbrev pub own_parts : Symbol → ℕ
own_parts (Filtered x filters) = length filters + 1
own_parts x = 1

-- how many alternatives of groups are in it
abbrev pub alternatives_inside : Symbol → ℕ
alternatives_inside x = sum_by own_alternatives (subterms x)

abbrev pub alternatives_inside_symbols : Symbols → ℕ
alternatives_inside_symbols xs = sum_by own_alternatives (subterms_of_symbols xs)

-- these alternatives, and those in them
abbrev pub alternatives_among : Alternatives → ℕ
alternatives_among choices =
    number_of_alternatives choices + sum_by own_alternatives (subterms_of_alternatives choices)

-- how many symbols and filters it has, itself counted
abbrev pub parts : Symbol → ℕ
parts x = sum_by own_parts (subterms x)

abbrev pub parts_of_symbols : Symbols → ℕ
parts_of_symbols xs = sum_by own_parts (subterms_of_symbols xs)

abbrev pub parts_of_alternatives : Alternatives → ℕ
parts_of_alternatives choices = sum_by own_parts (subterms_of_alternatives choices)

-- the sum of a count over the alternatives of each level
abbrev pub sum_over_levels : (Alternatives → ℕ) → Grammar → ℕ
sum_over_levels count g =
    sum_by (λ decl. sum_by (λ level. count (gathered_alternatives level.alts)) decl.levels) g.decls

-- fewer than so many declarations, levels, alternatives, and symbols with filters, each over the whole grammar
pub record HasFewerThan (most : ℕ) (g : Grammar) : Type 0 where
  pub declarations : length g.decls < most
  pub levels : sum_by (λ decl. length decl.levels) g.decls < most
  pub alternatives : sum_over_levels alternatives_among g < most
  pub symbols : sum_over_levels parts_of_alternatives g < most
