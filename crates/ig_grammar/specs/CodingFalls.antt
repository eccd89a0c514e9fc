-- For the proof checker alone: a reader need not read this file.
-- A symbol has more nodes than each one inside it.
use Rattle.std.specs.Prelude.{◌≡◌, ◌+◌, ◌≤◌, max, List, [], ◌∷◌, map}
use Rattle.std.proofs.Common.{arith}
use denote.Param.Weighed.{most}
use Rattle.ig_grammar.specs.CodingSizes.{nodes, list_nodes}
use Rattle.ig_grammar.specs.CodingAlternatives.{alternatives_nodes}
use Rattle.ig_grammar.specs.View.{symbol_of}
use Rattle.ig_grammar.specs.declared.symbol.Alt.{Alt}
use Rattle.ig_grammar.specs.declared.symbol.Symbol.{Symbol}
use Rattle.ig_grammar.specs.declared.symbol.Symbol.TheVariants.{Literal, Class, Call, Label, Guard, Let, Opt, Star, Plus, SepStar, SepPlus, Group, Offside, Ignore, Align, Filtered, Seq, Entry}
use Rattle.ig_grammar.specs.declared.symbol.Alts.TheDeep.{deep-Symbol, deep-Alt}

pub symbol_falls : (x : Symbol) → deep-Symbol x ≤ nodes (symbol_of x)
symbol_falls (Literal word) = omega arith
symbol_falls (Class class) = omega arith
symbol_falls (Call name arguments) = omega arith
symbol_falls (Label name x) = omega arith
symbol_falls (Guard e) = omega arith
symbol_falls (Let name e) = omega arith
symbol_falls (Opt x) = omega arith
symbol_falls (Star x) = omega arith
symbol_falls (Plus x) = omega arith
symbol_falls (SepStar x s) = omega arith
symbol_falls (SepPlus x s) = omega arith
symbol_falls (Group alternatives) = omega arith
symbol_falls (Offside x) = omega arith
symbol_falls (Ignore x) = omega arith
symbol_falls (Align x) = omega arith
symbol_falls (Filtered x filters) = omega arith
symbol_falls (Seq xs) = omega arith
symbol_falls (Entry bindings x) = omega arith

pub most_symbols : (xs : List Symbol) → most deep-Symbol xs ≤ list_nodes (map symbol_of xs)
most_symbols [] = omega arith
most_symbols (x ∷ xs) = omega (arith, symbol_falls x, most_symbols xs)

pub alternative_falls : (a : Alt) → deep-Alt a ≡ list_nodes a.symbols + 1
alternative_falls a = let e : max (list_nodes a.symbols + 1) 0 ≡ list_nodes a.symbols + 1 = omega arith in e

pub most_alternatives : (alternatives : List Alt) → most deep-Alt alternatives ≤ alternatives_nodes alternatives
most_alternatives [] = omega arith
most_alternatives (a ∷ others) = omega (arith, alternative_falls a, most_alternatives others)
