-- How much a pass adds to a grammar: how the numbers of its declarations, levels, alternatives and symbols grow.
use Rattle.std.specs.Prelude.{◌≡◌, ℕ, suc, ◌+◌, ◌*◌, ◌≤◌, List, length, map, sum_by}
use Rattle.ig_grammar.specs.Alternative.{gathered_alternatives}
use Rattle.ig_grammar.specs.Checked.{CheckedGrammar}
use Rattle.ig_grammar.specs.Counts.{HasFewerThan, alternatives_among, alternatives_inside, parts, parts_of_alternatives}
use Rattle.ig_grammar.specs.Symbol.{Symbol}
use Rattle.ig_grammar.specs.declared.declaration.DeclKind.TheVariants.{Syntax}
use Rattle.ig_grammar.specs.declared.declaration.Level.{Level}
use Rattle.ig_grammar.specs.declared.declaration.Decl.{Decl}
use Rattle.ig_grammar.specs.declared.grammar.Grammar.{Grammar}
use Rattle.ig_pass.specs.Rewriting.{rewritten_level}
use Rattle.ig_pass.specs.Rooted.{rooted}

-- a grammar and what a pass makes of it: a bound on all counts is multiplied by k, and two are added before for the root
abbrev pub Multiplies : ℕ → Grammar → Grammar → Type 0
Multiplies k g h = (most : ℕ) → HasFewerThan most g → HasFewerThan (k * (most + 2)) h

-- the counts of a list of levels
abbrev pub alternatives_of_levels : List Level → ℕ
alternatives_of_levels levels = sum_by (λ level. alternatives_among (gathered_alternatives level.alts)) levels

abbrev pub parts_of_levels : List Level → ℕ
parts_of_levels levels = sum_by (λ level. parts_of_alternatives (gathered_alternatives level.alts)) levels

-- levels, and those that stand in their place: each count is multiplied by k at most
pub record LevelsGrow (k : ℕ) (before after : List Level) : Type 0 where
  pub levels : length after ≤ k * length before
  pub alternatives : alternatives_of_levels after ≤ k * alternatives_of_levels before
  pub symbols : parts_of_levels after ≤ k * parts_of_levels before

-- the declaration that stands for the root, where none did, has one level, one alternative, and two symbols at most
abbrev pub RootIsCounted : Type 0
RootIsCounted =
    (c : CheckedGrammar) (most : ℕ) → HasFewerThan most c.grammar → HasFewerThan (most + 2) (rooted Syntax c).grammar

-- where the levels of each declaration grow so, the grammar does
abbrev pub DeclarationsAreCounted : Type 0
DeclarationsAreCounted =
    (k most : ℕ) (g h : Grammar) (step : Decl → Decl) → 1 ≤ k → h.decls ≡ map step g.decls →
    ((decl : Decl) → LevelsGrow k decl.levels (step decl).levels) → HasFewerThan most g → HasFewerThan (k * most) h

-- where a pass's own rule adds n symbols to a symbol at most, and no alternatives, it multiplies by n + 1 at most
abbrev pub RewritingsAreCounted : Type 0
RewritingsAreCounted =
    (n : ℕ) (own : Symbol → Symbol) → ((x : Symbol) → parts (own x) ≤ parts x + n) →
    ((x : Symbol) → alternatives_inside (own x) ≤ alternatives_inside x) →
    (levels : List Level) → LevelsGrow (suc n) levels (map (rewritten_level own) levels)

-- what passes rest on where they count
pub record CountsGrow : Type 0 where
  pub root : RootIsCounted
  pub declarations : DeclarationsAreCounted
  pub rewritings : RewritingsAreCounted
