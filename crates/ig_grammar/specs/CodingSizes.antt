-- For the proof checker alone: a reader need not read this file.
-- The sizes of symbols, by which recursion over them ends.
use Rattle.std.specs.Prelude.{ℕ, ◌+◌, List}
use Rattle.ig_grammar.specs.Symbol.{Symbol, Literal, OneOf, Call, Label, Guard, Let, Opt, Star, Plus, SepStar, SepPlus, Group, Offside, Ignore, Align, Filtered, Seq, Entry}
use Rattle.ig_grammar.specs.Symbol.{Symbols, no_symbols, next_symbol, Alternatives, no_alternatives, next_alternative, gathered}

-- the number of their nodes
abbrev mutual
  pub nodes : Symbol → ℕ
  nodes (Literal w) = 1
  nodes (OneOf c) = 1
  nodes (Call n es) = 1
  nodes (Label n x) = nodes x + 1
  nodes (Guard e) = 1
  nodes (Let n e) = 1
  nodes (Opt x) = nodes x + 1
  nodes (Star x) = nodes x + 1
  nodes (Plus x) = nodes x + 1
  nodes (SepStar x s) = nodes x + nodes s + 1
  nodes (SepPlus x s) = nodes x + nodes s + 1
  nodes (Group ys) = nodes_of_alternatives ys + 1
  nodes (Offside x) = nodes x + 1
  nodes (Ignore x) = nodes x + 1
  nodes (Align x) = nodes x + 1
  nodes (Filtered x fs) = nodes x + 1
  nodes (Seq xs) = nodes_of_symbols xs + 1
  nodes (Entry bs x) = nodes x + 1

  pub nodes_of_symbols : Symbols → ℕ
  nodes_of_symbols no_symbols = 0
  nodes_of_symbols (next_symbol x xs) = nodes x + nodes_of_symbols xs

  pub nodes_of_alternatives : Alternatives → ℕ
  nodes_of_alternatives no_alternatives = 0
  nodes_of_alternatives (next_alternative xs ys) = nodes_of_symbols xs + nodes_of_alternatives ys + 1

abbrev pub list_nodes : List Symbol → ℕ
list_nodes xs = nodes_of_symbols (gathered xs)
